-- The lines of a text that are states: the first of them, how many there are, and where lines are cut.
use Rattle.state_file.proofs.Common.{nat_tests, ◌≡◌, ℕ, ◌+◌, ◌<◌, ◌≤◌, Bool, true, false, ◌&&◌, List, [], ◌∷◌, ◌++◌, length, map, take, drop, get_or, set, cond, not, arith, refl, sym, ap, ◌∙◌, find, slice_get, All, list_all, slice_split, onto_first, position_or_len, option_map, take_more, take_more_set, take_all, map-append, length-map, All-nil, and-true, list_all-append, length-enumerate_from, length-filter, count_by-le-length, length-slice_split, slice_split_first, is_blank, is_feed, prefix_len, StateLine, is_bit, is_one, is_state, lines_of, states_from, trimmed_line}

-- ---- the states among lines

-- the first line that is a state is the first of all that are
pub first_state : (width number : ℕ) (lines : List (List ℕ))
    → option_map (map is_one) (find (is_state width) lines)
    ≡ slice_get (map (λ state. state.1) (states_from width number lines)) 0
first_state width number [] = refl
first_state width number (line ∷ lines) =
    grind (arith, nat_tests, first_state width (number + 1) lines)

-- no more lines are states than there are
pub few_states : (width number : ℕ) (lines : List (List ℕ))
    → length (states_from width number lines) ≤ length lines
few_states width number lines =
    grind (arith, nat_tests, length-map, length-filter, count_by-le-length, length-enumerate_from)

-- the number of a state is that of one of the lines
pub numbered_states : (top width number : ℕ) (lines : List (List ℕ)) → number + length lines ≤ top
    → All (λ (state : StateLine). state.0 < top) (states_from width number lines)
numbered_states top width number [] room = All-nil (λ (state : StateLine). state.0 < top)
numbered_states top width number (line ∷ lines) room =
    grind (arith, nat_tests, numbered_states top width (number + 1) lines (omega arith))

-- ---- where lines are cut

-- the blanks in front, counted up to the first byte that is none
pub blanks_in_front : (line : List ℕ)
    → position_or_len (λ c. not (is_blank c)) line ≡ prefix_len is_blank line
blanks_in_front [] = refl
blanks_in_front (byte ∷ line) = grind (arith, nat_tests, blanks_in_front line)

-- each line but the last one has a line feed
pub few_lines : (text : List ℕ) → length (lines_of text) ≤ length text + 1
few_lines text =
    omega (arith, length-map (slice_split is_feed text) trimmed_line, length-slice_split is_feed text, count_by-le-length is_feed text)

part_of : (feed : Bool) (byte : ℕ) (text : List ℕ)
    → length (byte ∷ text) ≤ cond (not feed) (1 + position_or_len is_feed text) 0
    → (length text ≤ position_or_len is_feed text → slice_split is_feed text ≡ text ∷ [])
    → cond feed ([] ∷ slice_split is_feed text) (onto_first byte (slice_split is_feed text))
    ≡ (byte ∷ text) ∷ []
part_of true byte text whole later = absurd (omega (arith, whole))
part_of false byte text whole later = ap (onto_first byte) (later (omega (arith, whole)))

-- where no line feed is, the text is one part
one_part : (text : List ℕ) → length text ≤ position_or_len is_feed text
    → slice_split is_feed text ≡ text ∷ []
one_part [] whole = refl
one_part (byte ∷ text) whole = part_of (is_feed byte) byte text whole (one_part text)

-- a text without a line feed is one line
pub last_line : (text line : List ℕ) (end : ℕ) → end ≡ position_or_len is_feed text → end ≡ length text
    → line ≡ trimmed_line (take end text) → lines_of text ≡ line ∷ []
last_line text line end counted whole trimmed = grind (arith, nat_tests, take_all, one_part)

-- the first line ends at the first line feed, and the others follow it
pub first_line : (text line : List ℕ) (end : ℕ) → end ≡ position_or_len is_feed text
    → end < length text → line ≡ trimmed_line (take end text)
    → lines_of text ≡ line ∷ lines_of (drop (end + 1) text)
first_line text line end counted within trimmed = grind (arith, nat_tests, slice_split_first)

-- ---- the bits of a line

-- one byte more was looked at
pub bytes_more : (bytes : List ℕ) (i : ℕ) → i < length bytes → list_all is_bit (take (i + 1) bytes)
    ≡ (list_all is_bit (take i bytes) && is_bit (get_or bytes i 0))
bytes_more bytes i within =
    let byte = get_or bytes i 0 in
    ap (list_all is_bit) (take_more bytes i 0 within)
    ∙ list_all-append is_bit (take i bytes) (byte ∷ [])
    ∙ ap (λ (bit : Bool). list_all is_bit (take i bytes) && bit) (and-true (is_bit byte))

-- one bit more was written
pub bits_more : (bits : List Bool) (state : List ℕ) (i : ℕ) (bit : Bool) → i < length bits
    → i < length state → bit ≡ is_one (get_or state i 0) → take i bits ≡ map is_one (take i state)
    → take (i + 1) (set bits i bit) ≡ map is_one (take (i + 1) state)
bits_more bits state i bit room within read so_far =
    take_more_set bits i bit room ∙ (λ k. so_far k ++ read k ∷ [])
    ∙ sym (map-append is_one (take i state) (get_or state i 0 ∷ []))
    ∙ sym (ap (map is_one) (take_more state i 0 within))
