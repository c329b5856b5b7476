-- One substitution on the terms of degree 3 or more alone: those that begin with the first pair of
-- all are taken from the others, and go back without it, or down to the terms of lower degree.
--
-- The first term in order has the least first literal of all, and then the least second one. So a
-- term that has both literals of its pair begins with them, and those that do lie next to each other.
use Rattle.std.specs.Prelude.{◌≡◌, ◌≢◌, ℕ, Bool, true, false, not, ◌&&◌, List, [], ◌∷◌, ◌++◌, map, drop, Some, Option}
use Rattle.std.specs.List.{AllByRecursion, filter}
use Rattle.std.specs.List.Sorted.{IsPermutation}
use Rattle.std.specs.Ordering.{ordering_then}
use Rattle.std.specs.declared.cmp.Ordering.{Ordering}
use Rattle.std.specs.declared.cmp.Ordering.TheVariants.{Less}
use Rattle.literal_lists.specs.declared.literal.Literal.{Literal}
use Rattle.literal_lists.specs.Literals.{literal_cmp}
use Rattle.term_table.specs.Terms.{Term, terms_total}
use Rattle.rosenberg_layer.specs.Rosenberg.{Pair, node, is_literal, is_long}

-- the first two literals are those of the pair
abbrev pub begins : Pair → List Literal → Bool
begins pair (p ∷ q ∷ ls) = is_literal pair.0 p && is_literal pair.1 q
begins pair _ = false

-- a term of degree at most 2
abbrev pub is_short : Term → Bool
is_short t = not (is_long t)

-- a term without its first two literals, and with the node at its end
abbrev pub front_term : Literal → Term → Term
front_term w t = (drop 2 t.0 ++ w ∷ [], t.1)

-- all of these terms begin with the pair
abbrev pub Begin : Pair → List Term → Type 0
Begin pair ts = AllByRecursion (λ t. begins pair t.0 ≡ true) ts

-- ---- the order of pairs

-- pairs are ordered by their first literals, and then by their second ones
abbrev pub pair_cmp : Pair → Pair → Ordering
pair_cmp a b = ordering_then (literal_cmp a.0 b.0) (literal_cmp a.1 b.1)

-- the first two literals of a set that has two
abbrev pub pair_of : List Literal → Pair
pair_of (p ∷ q ∷ ls) = (p, q)
pair_of _ = (node 0, node 0)

-- the first two literals of each term come after the pair
abbrev pub Follow : Pair → List Term → Type 0
Follow pair ts = AllByRecursion (λ t. pair_cmp pair (pair_of t.0) ≡ Less) ts

-- ---- a step

-- the terms that begin with the first pair of all are taken from the others
pub record IsTaken (pair : Pair) (touched rest long : List Term) : Type 0 where
  -- no term is lost, and none is there twice
  pub whole : IsPermutation long (touched ++ rest)
  -- the first term at least is among them
  pub some : touched ≢ []
  -- all of them begin with the pair
  pub begin : Begin pair touched
  -- and no other term does: each begins with a later pair
  pub others : Follow pair rest

-- .. and those of them that stay long go back, the others down, and their sizes are summed
pub record IsStep (pair : Pair) (w : Literal) (long low long' low' : List Term) (m : ℕ)
    : Type 0 where
  pub touched : List Term
  pub rest : List Term
  pub taken : IsTaken pair touched rest long
  -- those of degree 4 or more are long still
  pub put_back : IsPermutation (rest ++ filter is_long (map (front_term w) touched)) long'
  -- those of degree 3 are gathered with what is of lower degree
  pub put_down : low' ≡ low ++ filter is_short (map (front_term w) touched)
  -- the sum of their sizes ties the node to its pair
  pub weight : m ≡ terms_total touched

-- a step for this pair, if there is one, that gives the node of a number
abbrev pub IsStepOf : Option Pair → ℕ → (long low long' low' : List Term) → ℕ → Type 0
IsStepOf first number long low long' low' m =
    (pair : Pair) → first ≡ Some pair → IsStep pair (node number) long low long' low' m
