-- Products of a sum: their sizes, and the literals that they want true.
use Rattle.std.specs.Prelude.{ℕ, pos, int_lt, unsigned_abs, Bool, not, ◌==◌, List, length, map}
use mathlib.Core.Bool.{beq}
use Rattle.literal_lists.specs.declared.literal.Literal.{Literal}
use Rattle.problem_form.specs.declared.terms.Product.{Product}

-- a product of one literal
abbrev pub is_single : Product → Bool
is_single t = length t.literals == 1

-- the size of a product: how much it adds, or takes away, where its literals are true
abbrev pub size : Product → ℕ
size t = unsigned_abs t.coefficient

-- the coefficient is negative
abbrev pub is_negative : Product → Bool
is_negative t = int_lt t.coefficient (pos 0)

-- the literal, or its complement where it is turned
abbrev pub turned_literal : Bool → Literal → Literal
turned_literal turned l = record l { negated = not (beq turned l.negated) }

-- the literals that a product wants true to add more, or with `up` false to add less: its own or,
-- where it is negative, their complements
abbrev pub wanted : Bool → Product → List Literal
wanted up t = map (turned_literal (beq (is_negative t) up)) t.literals
