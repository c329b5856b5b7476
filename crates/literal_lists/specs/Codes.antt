-- Literals as numbers, and lists of them that lie flat.
use Rattle.std.specs.Prelude.{ℕ, ◌+◌, ◌*◌, ◌/◌, ◌%◌, ◌==◌, List, map, if◌then◌else◌}
use Rattle.base.specs.FlatLists.{parts}
use Rattle.literal_lists.specs.declared.literal.Literal.{Literal}

-- the code of a literal: twice its variable, and one more where it is negated
abbrev pub code_of : Literal → ℕ
code_of l = 2 * l.variable + (if l.negated then 1 else 0)

-- the literal of a code
abbrev pub literal_of : ℕ → Literal
literal_of code = record { variable = code / 2; negated = code % 2 == 1 }

-- the parts of a list of codes, as literals
abbrev pub literal_parts : List ℕ → List ℕ → List (List Literal)
literal_parts codes ends = map (map literal_of) (parts codes 0 ends)
