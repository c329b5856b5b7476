-- The state that a text holds: one bit a byte, in the first line that fits.
use Rattle.std.specs.Prelude.{◌≡◌, ℕ, ◌-◌, ◌==◌, Bool, ◌&&◌, ◌||◌, List, [], length, map, find, take, drop, Option, None, Some, slice_get}
use Rattle.std.specs.List.{slice_split, list_all, prefix_len, suffix_len, filter, enumerate_from}
use Rattle.std.specs.Option.{option_map}
use Rattle.whole_text.specs.Tokens.{is_blank, is_feed}

-- `0` and `-`
abbrev pub is_zero : ℕ → Bool
is_zero byte = (byte == 48) || (byte == 45)

-- `1` and `+`
abbrev pub is_one : ℕ → Bool
is_one byte = (byte == 49) || (byte == 43)

-- a line without the blanks at both of its ends
abbrev pub trimmed_line : List ℕ → List ℕ
trimmed_line line =
    let rest = drop (prefix_len is_blank line) line in
    take (length rest - suffix_len is_blank rest) rest

-- a byte that stands for a bit
abbrev pub is_bit : ℕ → Bool
is_bit byte = is_zero byte || is_one byte

-- whether bytes are a state of this many bits
abbrev pub is_state : ℕ → List ℕ → Bool
is_state width bytes = (length bytes == width) && list_all is_bit bytes

-- the lines of a text, without the blanks at their ends
abbrev pub lines_of : List ℕ → List (List ℕ)
lines_of text = map trimmed_line (slice_split is_feed text)

-- the bits of the first line that is a state of this many bits
abbrev pub state_of : ℕ → List ℕ → Option (List Bool)
state_of width text = option_map (map is_one) (find (is_state width) (lines_of text))

-- ---- every state

-- the number of a line, and the bits that stand in it
abbrev pub StateLine : Type 0
StateLine = ℕ × List Bool

-- those of the lines that are states of this many bits, each with its number, where the first line has
-- this one
abbrev pub states_from : ℕ → ℕ → List (List ℕ) → List StateLine
states_from width number lines =
    map (λ line. (line.0, map is_one line.1))
    (filter (λ line. is_state width line.1) (enumerate_from number lines))

-- the states of this many bits that a text holds, in their order, each with the number of its line:
-- all lines are numbered, from 1
abbrev pub states_of : ℕ → List ℕ → List StateLine
states_of width text = states_from width 1 (lines_of text)

-- the state of a text is the first of its states
abbrev pub FirstOfStates : Type 0
FirstOfStates = (width : ℕ) (text : List ℕ)
    → state_of width text ≡ slice_get (map (λ state. state.1) (states_of width text)) 0

-- what is still to be read of a text: how many bits a state has, and the states that are left
pub record StatesLeft : Type 0 where
  pub width : ℕ
  pub states : List StateLine

-- the lines of what is left of a text, and none where nothing is
abbrev pub lines_left : Option (List ℕ) → List (List ℕ)
lines_left None = []
lines_left (Some text) = lines_of text
