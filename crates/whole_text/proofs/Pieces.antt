-- The pieces of words: a piece goes on, or ends where neighbours do not join, at a blank or at the
-- end of the line.
use Rattle.whole_text.proofs.Common.{nat_tests, ◌≡◌, ℕ, ◌+◌, ◌-◌, ◌<◌, ◌≤◌, Bool, true, false, cond, List, [], ◌∷◌, ◌++◌, length, map, take, drop, get_or, refl, sym, ap, ◌∙◌, arith, filter, slice_split, slice_range, onto_first, flat_map, AllByRecursion, position_or_len, cases_Bool, length-append, take-append-drop, drop_more, take_more, length-take, take_all, drop_all, get_or-take, All-from_recursion, slice_split_at, slice_split_none, slice_split-cons_no, Style, word, is_blank, is_filled, words, joins, pieces, pieces_of_line, is_comment, tokens_of_line, IsBegun}
use Rattle.whole_text.specs.declared.token.Style.TheVariants.{Plain}
use Rattle.whole_text.proofs.Slices.{slice_length, slice_at, slice_dropped, slice_taken}
use Rattle.whole_text.proofs.LineWords.{words_none, words_blank, words_first, kept_first, other_line}

-- ---- runs: nothing is cut inside

abbrev pub IsRun : Style → List ℕ → Type 0
IsRun style xs = pieces style xs ≡ xs ∷ []

-- the last byte
abbrev pub last_of : List ℕ → ℕ
last_of w = get_or w (length w - 1) 0

last_next : (x y : ℕ) (ys : List ℕ) → last_of (x ∷ y ∷ ys) ≡ last_of (y ∷ ys)
last_next x y ys = grind (arith, nat_tests)

chosen_run : (b : Bool) (x y : ℕ) (ys : List ℕ) (parts : List (List ℕ))
    → cond b (onto_first x parts) ((x ∷ []) ∷ parts) ≡ (x ∷ y ∷ ys) ∷ []
    → (b ≡ true) × (parts ≡ (y ∷ ys) ∷ [])
chosen_run b x y ys parts e = grind (arith, nat_tests)

run_parts : (style : Style) (x y : ℕ) (ys : List ℕ) → IsRun style (x ∷ y ∷ ys)
    → (joins style x y ≡ true) × IsRun style (y ∷ ys)
unfolding pieces
run_parts style x y ys run = chosen_run (joins style x y) x y ys (pieces style (y ∷ ys)) run

-- one byte is a run
pub one_run : (style : Style) (x : ℕ) → IsRun style (x ∷ [])
unfolding pieces
one_run style x = refl

run_ends_at : (style : Style) (x : ℕ) (xs : List ℕ) (d : ℕ) (cs : List ℕ) → IsRun style (x ∷ xs)
    → joins style (last_of (x ∷ xs)) d ≡ false
    → pieces style ((x ∷ xs) ++ d ∷ cs) ≡ (x ∷ xs) ∷ pieces style (d ∷ cs)
unfolding pieces
run_ends_at style x [] d cs run apart = rw apart refl
run_ends_at style x (y ∷ ys) d cs run apart =
    grind (arith, nat_tests, run_parts style x y ys run, last_next, run_ends_at style y ys d cs)

run_grows : (style : Style) (x : ℕ) (xs : List ℕ) (d : ℕ) → IsRun style (x ∷ xs)
    → joins style (last_of (x ∷ xs)) d ≡ true → IsRun style ((x ∷ xs) ++ d ∷ [])
unfolding pieces
run_grows style x [] d run together = rw together refl
run_grows style x (y ∷ ys) d run together =
    grind (arith, nat_tests, run_parts style x y ys run, last_next, run_grows style y ys d)

-- a run ends where neighbours do not join
pub run_ends : (style : Style) (w : List ℕ) (d : ℕ) (cs : List ℕ) → 0 < length w → IsRun style w
    → joins style (last_of w) d ≡ false → pieces style (w ++ d ∷ cs) ≡ w ∷ pieces style (d ∷ cs)
run_ends style [] d cs some run apart = absurd (omega (arith, some))
run_ends style (x ∷ xs) d cs some run apart = run_ends_at style x xs d cs run apart

-- and goes on where they do
pub run_goes_on : (style : Style) (w : List ℕ) (d : ℕ) → 0 < length w → IsRun style w
    → joins style (last_of w) d ≡ true → IsRun style (w ++ d ∷ [])
run_goes_on style [] d some run together = absurd (omega (arith, some))
run_goes_on style (x ∷ xs) d some run together = run_grows style x xs d run together

-- in the plain style each word is a run
pub plain_run : (w : List ℕ) → 0 < length w → IsRun Plain w
unfolding pieces
plain_run [] some = absurd (omega (arith, some))
plain_run (x ∷ []) some = refl
plain_run (x ∷ y ∷ ys) some = ap (onto_first x) (plain_run (y ∷ ys) (omega arith))

plain_filled : (ws : List (List ℕ)) → flat_map (pieces Plain) (filter is_filled ws) ≡ filter is_filled ws
plain_filled [] = refl
plain_filled (w ∷ ws) = grind (arith, nat_tests, plain_run, plain_filled ws)

-- so its pieces are its words
pub plain_pieces : (line : List ℕ) → pieces_of_line Plain line ≡ words line
unfolding words
plain_pieces line = plain_filled (slice_split is_blank line)

pub plain_line : (n : ℕ) (line : List ℕ)
    → tokens_of_line Plain n line ≡ cond (is_comment Plain line) [] (map (word n) (words line))
unfolding tokens_of_line
plain_line n line = ap (λ ws. cond (is_comment Plain line) [] (map (word n) ws)) (plain_pieces line)

pub other_plain : (n : ℕ) (line : List ℕ) → is_comment Plain line ≡ false
    → tokens_of_line Plain n line ≡ map (word n) (words line)
other_plain n line other = other_line Plain n line other ∙ ap (map (word n)) (plain_pieces line)

-- ---- the pieces of a line

-- a word that a blank ends
word_ended : (style : Style) (w : List ℕ) (b : ℕ) (l : List ℕ) → IsBegun style w
    → is_blank b ≡ true → words (w ++ b ∷ l) ≡ w ∷ words l
unfolding words
word_ended style w b l h e =
    grind (arith, nat_tests, slice_split_at, All-from_recursion, kept_first)

-- a word that the line ends
word_last : (style : Style) (w : List ℕ) → IsBegun style w → words w ≡ w ∷ []
unfolding words
word_last style w h = grind (arith, nat_tests, slice_split_none, All-from_recursion, kept_first)

-- a token that a blank ends
pub blank_ends : (style : Style) (w : List ℕ) (b : ℕ) (l : List ℕ) → IsBegun style w
    → is_blank b ≡ true → pieces_of_line style (w ++ b ∷ l) ≡ w ∷ pieces_of_line style l
blank_ends style w b l h e = grind (arith, nat_tests, word_ended)

-- a token that the line ends
pub line_ends : (style : Style) (w : List ℕ) → IsBegun style w → pieces_of_line style w ≡ w ∷ []
line_ends style w h = grind (arith, nat_tests, word_last)

-- the first word of a line that begins with no blank, without its first byte, and the other words
first_split : (b : ℕ) (l : List ℕ) → is_blank b ≡ false
    → (v : List ℕ) × (vs : List (List ℕ)) × (slice_split is_blank (b ∷ l) ≡ (b ∷ v) ∷ vs)
first_split b l e = grind (arith, nat_tests, slice_split-cons_no is_blank b l e)

-- a word in front goes to the first word
split_front : (w l v : List ℕ) (vs : List (List ℕ)) → AllByRecursion (λ b. is_blank b ≡ false) w
    → slice_split is_blank l ≡ v ∷ vs → slice_split is_blank (w ++ l) ≡ (w ++ v) ∷ vs
split_front [] l v vs ink cut = cut
split_front (c ∷ cs) l v vs ink cut = grind (arith, nat_tests, split_front cs l v vs ink.1 cut)

-- a token that ends where neighbours do not join
pub apart_ends : (style : Style) (w : List ℕ) (b : ℕ) (l : List ℕ) → IsBegun style w
    → is_blank b ≡ false → joins style (last_of w) b ≡ false
    → pieces_of_line style (w ++ b ∷ l) ≡ w ∷ pieces_of_line style (b ∷ l)
unfolding words
apart_ends style w b l h ink apart =
    let parts = first_split b l ink in
    let whole = split_front w (b ∷ l) (b ∷ parts.0) parts.1 h.ink parts.2 in
    let later = flat_map (pieces style) (filter is_filled parts.1) in
    grind (arith, nat_tests, kept_first, length-append, run_ends)

-- ---- the piece at the front of a line

last_taken : (bs : List ℕ) (i : ℕ) → 0 < i → i ≤ length bs → last_of (take i bs) ≡ get_or bs (i - 1) 0
last_taken bs i some le = grind (arith, nat_tests, length-take, get_or-take)

-- a token of one byte
pub one_begun : (style : Style) (b : ℕ) → is_blank b ≡ false → IsBegun style (b ∷ [])
one_begun style b ink = record { some = omega arith; ink = (ink, tt); run = one_run style b }

-- the first byte, which is no blank
pub piece_begins : (style : Style) (bs : List ℕ) → 0 < length bs → is_blank (get_or bs 0 0) ≡ false
    → IsBegun style (take 1 bs)
piece_begins style bs some ink = grind (arith, nat_tests, one_begun)

ink_push : (w : List ℕ) (b : ℕ) → AllByRecursion (λ c. is_blank c ≡ false) w → is_blank b ≡ false
    → AllByRecursion (λ c. is_blank c ≡ false) (w ++ b ∷ [])
ink_push [] b h e = (e, tt)
ink_push (c ∷ w) b h e = (h.0, ink_push w b h.1 e)

-- a token that goes on by a byte
pub begun_more : (style : Style) (w : List ℕ) (b : ℕ) → IsBegun style w → is_blank b ≡ false
    → joins style (last_of w) b ≡ true → IsBegun style (w ++ b ∷ [])
begun_more style w b h ink together = grind (arith, nat_tests, length-append, ink_push, run_goes_on)

pub piece_more : (style : Style) (bs : List ℕ) (i : ℕ) → 0 < i → i < length bs
    → IsBegun style (take i bs) → is_blank (get_or bs i 0) ≡ false
    → joins style (get_or bs (i - 1) 0) (get_or bs i 0) ≡ true → IsBegun style (take (i + 1) bs)
piece_more style bs i some lt begun ink together =
    rw (take_more bs i 0 lt) (begun_more style (take i bs) (get_or bs i 0) begun ink (grind (arith, nat_tests, last_taken)))

pub piece_ends : (style : Style) (bs : List ℕ) (i : ℕ) → 0 < i → i < length bs
    → IsBegun style (take i bs)
    → (is_blank (get_or bs i 0) ≡ false → joins style (get_or bs (i - 1) 0) (get_or bs i 0) ≡ false)
    → pieces_of_line style bs ≡ take i bs ∷ pieces_of_line style (drop i bs)
piece_ends style bs i some lt begun apart =
    let w = take i bs in
    let b = get_or bs i 0 in
    let l = drop (i + 1) bs in
    let next : drop i bs ≡ b ∷ l = drop_more bs i 0 lt in
    let whole : bs ≡ w ++ b ∷ l = sym (take-append-drop i bs) ∙ ap (λ (r : List ℕ). w ++ r) next in
    grind (arith, nat_tests, cases_Bool, blank_ends, words_blank, apart_ends, last_taken)

pub piece_whole : (style : Style) (bs : List ℕ) (i : ℕ) → length bs ≤ i → IsBegun style (take i bs)
    → pieces_of_line style bs ≡ take (length bs) bs ∷ pieces_of_line style (drop (length bs) bs)
piece_whole style bs i le begun =
    grind (arith, nat_tests, take_all, drop_all, line_ends, words_none)

-- in the plain style it is the first word
pub plain_first : (bs : List ℕ) (n : ℕ) → 0 < length bs → is_blank (get_or bs 0 0) ≡ false
    → n ≡ position_or_len is_blank bs
    → pieces_of_line Plain bs ≡ take n bs ∷ pieces_of_line Plain (drop n bs)
plain_first bs n some ink first = grind (arith, nat_tests, words_first, plain_pieces)

-- ---- at a place of a text

pub first_ink : (text : List ℕ) (a b : ℕ) → a < b → is_blank (get_or text a 0) ≡ false
    → is_blank (get_or (slice_range text a b) 0 0) ≡ false
first_ink text a b lt ink = grind (arith, nat_tests, slice_at)

pub within_line : (text : List ℕ) (a b n : ℕ) → b ≤ length text → n ≤ length (slice_range text a b)
    → n ≤ b - a
within_line text a b n le h = omega (arith, slice_length text a b le)

-- the piece that is taken at a place of a text, and the blanks that are skipped behind it
pub piece_taken : (style : Style) (text : List ℕ) (a b n k : ℕ) → a + n ≤ b
    → pieces_of_line style (slice_range text a b)
    ≡ take n (slice_range text a b) ∷ pieces_of_line style (drop n (slice_range text a b))
    → words (slice_range text (a + n) b) ≡ words (slice_range text (a + n + k) b)
    → pieces_of_line style (slice_range text a b)
    ≡ slice_range text a (a + n) ∷ pieces_of_line style (slice_range text (a + n + k) b)
piece_taken style text a b n k le cut skip = grind (arith, nat_tests, slice_taken, slice_dropped)
