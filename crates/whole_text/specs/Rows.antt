-- The words of a text line by line, and what is left of them after a word or a line.
use Rattle.std.specs.Prelude.{ℕ, List, [], ◌∷◌, Option, Some, None, Result, Ok, ◌==◌, if◌then◌else◌}
use Rattle.whole_text.specs.declared.words.WordRef.{WordRef}
use Rattle.whole_text.specs.declared.faults.TextFault.{TextFault}
use Rattle.whole_text.specs.Tokens.{Word}
use Rattle.whole_text.specs.TokenTexts.{word_of}
use Rattle.whole_text.specs.Steps.{◌>>=◌}

-- ---- lines

-- the words of a line: one or more
pub record Row : Type 0 where
  pub first : Word
  pub others : List Word

-- a word before rows: of the first one, or of a row of its own
abbrev pub onto_rows : Word → List Row → List Row
onto_rows w [] = record { first = w; others = [] } ∷ []
onto_rows w (r ∷ rs) =
    if r.first.line == w.line
    then record { first = w; others = r.first ∷ r.others } ∷ rs
    else record { first = w; others = [] } ∷ r ∷ rs

-- the words, line by line
unfoldable pub by_line : List Word → List Row
by_line [] = []
by_line (w ∷ ws) = onto_rows w (by_line ws)

-- the words up to the end of this line
abbrev pub on_line : ℕ → List Word → List Word
on_line line [] = []
on_line line (w ∷ ws) = if w.line == line then w ∷ on_line line ws else []

-- the words after this line
abbrev pub past_line : ℕ → List Word → List Word
past_line line [] = []
past_line line (w ∷ ws) = if w.line == line then past_line line ws else w ∷ ws

-- ---- readings

-- all of these, one after another
unfoldable pub each : {A B : Type 0} → (A → Result B TextFault) → List A → Result (List B) TextFault
each read [] = Ok []
each read (a ∷ others) = read a >>= λ b. each read others >>= λ more. Ok (b ∷ more)

-- the words that are left, the next of which was taken; none, where there was none to take
abbrev pub left : Option WordRef → List Word → List Word
left None ws = []
left (Some w) ws = word_of w ∷ ws
