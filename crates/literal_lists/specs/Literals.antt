-- Literals, and sets of them.
use Rattle.std.specs.Prelude.{◌≡◌, ℕ, ◌<◌, Bool, false, not, cond, ◌&&◌, ◌==◌, List, [], ◌∷◌, All}
use Rattle.std.specs.List.{list_any, list_all, slice_index_or}
use Rattle.std.specs.List.Sorted.{IsStrictlySortedBy}
use Rattle.std.specs.Ordering.{nat_cmp, bool_cmp, ordering_then, match_ordering}
use Rattle.std.specs.declared.cmp.Ordering.{Ordering}
use mathlib.Core.Bool.{beq}
use Rattle.literal_lists.specs.declared.literal.Literal.{Literal}

-- the literal is true under the assignment
abbrev pub holds : List Bool → Literal → Bool
holds x l =
    cond l.negated (not (slice_index_or x l.variable false)) (slice_index_or x l.variable false)

-- all literals are true
abbrev pub all_hold : List Bool → List Literal → Bool
all_hold x ls = list_all (holds x) ls

-- some literal is true
abbrev pub some_holds : List Bool → List Literal → Bool
some_holds x ls = list_any (holds x) ls

-- literals are ordered by variable, and a variable stands before its complement
abbrev pub literal_cmp : Literal → Literal → Ordering
literal_cmp a b = ordering_then (nat_cmp a.variable b.variable) (bool_cmp a.negated b.negated)

-- a variable and its complement
abbrev pub are_opposite : Literal → Literal → Bool
are_opposite a b = (a.variable == b.variable) && not (beq a.negated b.negated)

-- some literal and its complement are both listed
abbrev pub has_clash : List Literal → Bool
has_clash ls = list_any (λ l. list_any (are_opposite l) ls) ls

-- a literal put into an ascending list, where it isn't yet
abbrev pub with_literal : Literal → List Literal → List Literal
with_literal l [] = l ∷ []
with_literal l (k ∷ ks) =
    match_ordering (literal_cmp l k) (l ∷ k ∷ ks) (k ∷ ks) (k ∷ with_literal l ks)

-- the listed literals in ascending order, each once
abbrev pub literal_set : List Literal → List Literal
literal_set [] = []
literal_set (l ∷ ls) = with_literal l (literal_set ls)

-- ascending literals of the first so many variables, none beside its complement
pub record IsLiteralSet (variables : ℕ) (ls : List Literal) : Type 0 where
  pub ordered : IsStrictlySortedBy literal_cmp ls
  pub apart : has_clash ls ≡ false
  pub within : All (λ l. l.variable < variables) ls
