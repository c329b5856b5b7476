-- Which literals hurt a part: what can break it, or break it further, when it becomes true.
use Rattle.std.specs.Prelude.{ℕ, Bool, true, false, ◌&&◌, ◌||◌, ◌==◌, max, List, is_none, if◌then◌else◌}
use Rattle.std.specs.List.{list_any}
use mathlib.Core.Bool.{beq}
use Rattle.literal_lists.specs.declared.literal.Literal.{Literal}
use Rattle.problem_form.specs.declared.terms.Product.{Product}
use Rattle.problem_form.specs.declared.terms.Clause.{Clause}
use Rattle.problem_form.specs.declared.terms.Constraint.{Constraint}
use Rattle.problem_form.specs.Limits.{need, room}
use Rattle.problem_form.specs.Wanted.{is_negative, turned_literal}

-- ---- literals of a list

-- two literals are the same
abbrev pub same : Literal → Literal → Bool
same l m = (l.variable == m.variable) && beq l.negated m.negated

-- the literals or, where they are turned, their complements have this one
abbrev pub meets : Bool → List Literal → Literal → Bool
meets turned ls l = list_any (λ m. same l (turned_literal turned m)) ls

-- ---- sums of products

-- when it becomes true, the literal can make the product add more, or with `up` false add less
abbrev pub moves : Bool → Product → Literal → Bool
moves up t l = meets (beq (is_negative t) up) t.literals l

-- it can move the sum of the products so
abbrev pub moves_sum : Bool → List Product → Literal → Bool
moves_sum up ts l = list_any (λ t. moves up t l) ts

-- ---- parts that it hurts

-- a hard clause that has its complement
abbrev pub hurts_clause : Clause → Literal → Bool
hurts_clause c l = is_none c.weight && meets true c.literals l

-- a constraint whose sum it can lower, or raise where that is to be exact
abbrev pub hurts_constraint : Constraint → Literal → Bool
hurts_constraint k l = moves_sum false k.products l || (k.exact && moves_sum true k.products l)

-- ---- what can be missing

-- the most that can be missing in a constraint: what it needs, or the room of one that is exact, where
-- that is more
abbrev pub most_missing : Constraint → ℕ
most_missing k = if k.exact then max (need k) (room k) else need k
