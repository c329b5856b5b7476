-- The table of a run, in two parts: its terms of degree 3 or more, in order, and additions of lower
-- degree that are not summed yet.
--
-- The run never looks at what is of lower degree, so that is only gathered, and summed once in the
-- end.
use Rattle.std.specs.Prelude.{◌≡◌, ◌≢◌, ℕ, ◌+◌, ◌-◌, ◌*◌, ◌^◌, ◌≤◌, pos, unsigned_abs, true, false, All, List, [], ◌∷◌, ◌++◌, length, Option, Some, None}
use Rattle.std.specs.List.{AllByRecursion, sum_by}
use Rattle.literal_lists.specs.declared.literal.Literal.{Literal}
use Rattle.term_table.specs.Terms.{Term, coefficient_of, terms_total, Ascends, AreTerms, IsTermSet}
use Rattle.term_table.specs.Tables.{TableContent}
use Rattle.rosenberg_layer.specs.Rosenberg.{Pair, node, is_long, tie_terms}
use Rattle.rosenberg_layer.specs.Steps.{IsStep}

-- two lists that give each set the same sum
abbrev pub AreAlike : List Term → List Term → Type 0
AreAlike ts us = (ls : List Literal) → coefficient_of ls ts ≡ coefficient_of ls us

-- all of them have degree 3 or more
abbrev pub AllLong : List Term → Type 0
AllLong ts = AllByRecursion (λ t. is_long t ≡ true) ts

-- none of them has
abbrev pub NoneLong : List Term → Type 0
NoneLong ts = AllByRecursion (λ t. is_long t ≡ false) ts

-- How often the size of a set's coefficient counts: a substitution that touches the term adds 8
-- times that size. A term of degree 2 counts 1, one of degree 3 counts 9, and one of degree 4
-- counts 17.
abbrev pub times_of : List Literal → ℕ
times_of ls = 8 * (length ls - 2) + 1

-- what a term counts
abbrev pub weight_of : Term → ℕ
weight_of t = unsigned_abs t.1 * times_of t.0

-- No substitution raises the sum of the weights. It bounds all numbers that the run makes, since it
-- is bounded for the table that it begins with.
abbrev pub weights : List Term → ℕ
weights ts = sum_by weight_of ts

-- the terms of degree 3 or more, and additions of lower degree, whose weights are bounded together
pub record AreParts (t : TableContent) (adds long : List Term) (bound : ℕ) : Type 0 where
  -- the table's terms name nodes below its width alone
  pub sound : AreTerms t.width t.terms
  -- with both parts together each set has the sum that it has in the table
  pub sums : AreAlike t.terms (adds ++ long)
  -- what is gathered has degree 2 or less
  pub low : NoneLong adds
  -- and what the run works on has degree 3 or more
  pub high : AllLong long
  -- in the order of tables, so the first of them gives the next pair
  pub ordered : Ascends long
  -- none of them has the coefficient 0
  pub nonzero : All (λ u. u.1 ≢ pos 0) long
  -- what is gathered names nodes below the width alone
  pub sets : AllByRecursion (λ u. IsTermSet t.width u.0) adds
  -- so no sum passes what its field holds
  pub small : weights adds + weights long ≤ bound
  -- and no weight of a tie does
  pub total : terms_total long ≤ 2 ^ 124

-- The terms that tie nodes, from a number on, to their pairs by these weights. Four terms for each
-- pair, by the least number first.
abbrev pub ties_of : ℕ → List Pair → List ℕ → List Term
ties_of n (pair ∷ pairs) (m ∷ ms) = tie_terms pair (node n) m ++ ties_of (n + 1) pairs ms
ties_of n _ _ = []

-- One turn of the run: a substitution for the pair, if there is one. Where no term is long there is
-- none, and nothing changes.
abbrev pub IsTurn : Option Pair → ℕ → (long low : List Term) → (pairs : List Pair) → (ms : List ℕ)
    → (long' low' : List Term) → (pairs' : List Pair) → (ms' : List ℕ) → Type 0
IsTurn None n long low pairs ms long' low' pairs' ms' =
    (long ≡ []) × (long' ≡ long) × (low' ≡ low) × (pairs' ≡ pairs) × (ms' ≡ ms)
IsTurn (Some pair) n long low pairs ms long' low' pairs' ms' =
    (m : ℕ) × IsStep pair (node n) long low long' low' m × (pairs' ≡ pairs ++ pair ∷ [])
    × (ms' ≡ ms ++ m ∷ [])
