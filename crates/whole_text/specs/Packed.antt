-- The words of a text, packed: their bytes joined, and for each word its stride, which is its
-- length and how many lines it stands below the word before.
use Rattle.std.specs.Prelude.{◌≡◌, ℕ, ◌+◌, ◌/◌, ◌%◌, ◌^◌, ◌<◌, ◌≤◌, List, [], ◌∷◌, length, take, drop, ◌==◌, if◌then◌else◌}
use Rattle.whole_text.specs.declared.packed.Stride.{Stride}
use Rattle.whole_text.specs.declared.token.Token.{Token}
use Rattle.whole_text.specs.Tokens.{Word, word}

-- the stride that a mark says: the length, and 128 more where the word begins the next line
abbrev pub stride_of : ℕ → Stride
stride_of mark = record { len = mark % 128; lines = mark / 128 }

-- the strides of the marks; a mark of 0 stands for the next of the wide ones, which no mark can say
abbrev pub strides : List ℕ → List Stride → List Stride
strides [] wide = []
strides (mark ∷ marks) [] = if mark == 0 then [] else stride_of mark ∷ strides marks []
strides (mark ∷ marks) (s ∷ wide) =
    if mark == 0 then s ∷ strides marks wide else stride_of mark ∷ strides marks (s ∷ wide)

-- the tokens of these strides, from a place and a line on
abbrev pub placed : ℕ → ℕ → List Stride → List Token
placed at line [] = []
placed at line (s ∷ ss) =
    record { start = at; end = at + s.len; line = line + s.lines }
    ∷ placed (at + s.len) (line + s.lines) ss

-- the words of these strides, cut from the front of the bytes, from a line on
abbrev pub words_along : ℕ → List ℕ → List Stride → List Word
words_along line bytes [] = []
words_along line bytes (s ∷ ss) =
    word (line + s.lines) (take s.len bytes)
    ∷ words_along (line + s.lines) (drop s.len bytes) ss

-- how many bytes the strides take
abbrev pub bytes_along : List Stride → ℕ
bytes_along [] = 0
bytes_along (s ∷ ss) = s.len + bytes_along ss

-- how many lines the strides go down
abbrev pub lines_along : List Stride → ℕ
lines_along [] = 0
lines_along (s ∷ ss) = s.lines + lines_along ss

-- marks of 0
abbrev pub wide_marks : List ℕ → ℕ
wide_marks [] = 0
wide_marks (mark ∷ marks) = (if mark == 0 then 1 else 0) + wide_marks marks

-- each mark of 0 has its wide stride, and the last word stands on this line
pub record IsPacked (marks : List ℕ) (wide : List Stride) (line : ℕ) : Type 0 where
  pub every : wide_marks marks ≡ length wide
  pub last : line ≡ 1 + lines_along (strides marks wide)
  pub few : line < 2 ^ 64

-- the strides keep within the bytes, and within the lines that can be numbered
pub record IsCursor (line : ℕ) (bytes marks : List ℕ) (wide : List Stride) : Type 0 where
  pub within : bytes_along (strides marks wide) ≤ length bytes
  pub few : line + lines_along (strides marks wide) < 2 ^ 64
