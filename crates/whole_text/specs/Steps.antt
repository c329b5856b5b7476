-- What the reading of a list of words is made of: steps that give a value, or the first fault.
use Rattle.std.specs.Prelude.{◌≡◌, ℕ, ℤ, pos, negsuc, List, [], ◌∷◌, length, Result, Ok, Err, nat_le, if◌then◌else◌, slice_get, ◌-◌}
use Rattle.std.specs.Option.{option_map_or, ok_or}
use Rattle.whole_text.specs.declared.faults.TextKind.{TextKind}
use Rattle.whole_text.specs.declared.faults.TextKind.TheVariants as kinds
use Rattle.whole_text.specs.declared.faults.TextFault.{TextFault}
use Rattle.whole_text.specs.declared.faults.TextAnswer.{TextAnswer}
use Rattle.whole_text.specs.declared.faults.TextAnswer.TheVariants as answers
use Rattle.whole_text.specs.Numbers.{number_of}
use Rattle.whole_text.specs.Tokens.{Word}

-- a step, and the next one with its value; a fault ends the reading
infixl 10 ◌>>=◌
abbrev pub ◌>>=◌ : {A B : Type 0} → Result A TextFault → (A → Result B TextFault)
    → Result B TextFault
(Ok x) >>= f = f x
(Err e) >>= f = Err e

-- a bad answer is the reading's fault, and memory may run out at any reading
abbrev pub Fails : {Y : Type 0} → TextAnswer → Result Y TextFault → Type 0
Fails answers.NoMemory read = Unit {0}
Fails (answers.Bad f) read = read ≡ Err f

-- what a function returned, seen by view, is what the reading gives, unless memory ran out
abbrev pub Gives : {X Y : Type 0} → (X → Y) → Result X TextAnswer → Result Y TextFault → Type 0
Gives view (Ok x) read = read ≡ Ok (view x)
Gives view (Err e) read = Fails e read

-- the same where no memory is taken
abbrev pub GivesAlways : {X Y : Type 0} → (X → Y) → Result X TextFault → Result Y TextFault → Type 0
GivesAlways view (Ok x) read = read ≡ Ok (view x)
GivesAlways view (Err f) read = read ≡ Err f

-- a fault of this kind on this line
abbrev pub fault : TextKind → ℕ → TextFault
fault kind line = record { kind = kind; line = line }

-- the line of the last word, or 1 where there is none
abbrev pub end_line : List Word → ℕ
end_line ws = option_map_or (λ w. w.line) (slice_get ws (length ws - 1)) 1

-- the next word and what is left; the fault `End` stands on the line end
abbrev pub next_of : ℕ → List Word → Result (Word × List Word) TextFault
next_of end [] = Err (fault kinds.End end)
next_of end (w ∷ ws) = Ok (w, ws)

-- a number
unfoldable pub integer_at : Word → Result ℤ TextFault
integer_at w = ok_or (number_of w.bytes) (fault kinds.Number w.line)

-- a whole number as one that is at least this, on this line
abbrev pub from_least : ℕ → ℕ → ℤ → Result ℕ TextFault
from_least least line (pos n) = if nat_le least n then Ok n else Err (fault kinds.Range line)
from_least least line (negsuc n) = Err (fault kinds.Range line)

-- a number that is at least this
unfoldable pub natural_at : ℕ → Word → Result ℕ TextFault
natural_at least w = integer_at w >>= λ z. from_least least w.line z
