-- Forms that are gathered by adding to them: what their coefficients have more than before.
use Rattle.std.specs.Prelude.{◌≡◌, ℕ, suc, ℤ, pos, ◌+ℤ◌, List, [], ◌∷◌, ◌++◌, map}
use Rattle.literal_lists.specs.declared.literal.Literal.{Literal}
use Rattle.term_table.specs.Terms.{Term, coefficient_of}
use Rattle.posiform_check.specs.declared.set_sums.PairTerm.{PairTerm}
use Rattle.posiform_check.specs.declared.set_sums.PairSum.{PairSum}
use Rattle.posiform_check.specs.BitForms.{node_set, pair_set}

-- each set has the coefficient that the one form and these terms give it together
abbrev pub HasMore : List Term → List Term → List Term → Type 0
HasMore old added new =
    (set : List Literal)
    → coefficient_of set new ≡ coefficient_of set old +ℤ coefficient_of set added

-- no set has a coefficient but 0
abbrev pub HasNone : List Term → Type 0
HasNone ts = (set : List Literal) → coefficient_of set ts ≡ pos 0

-- numbers, as the coefficients of the nodes from this one on
abbrev pub node_terms : ℕ → List ℤ → List Term
node_terms n [] = []
node_terms n (w ∷ ws) = (node_set n, w) ∷ node_terms (suc n) ws

-- what is listed for a pair, as a term
abbrev pub pair_term : PairTerm → Term
pair_term p = (pair_set p.first p.second, p.coefficient)

-- the sum of what is listed for a pair, as a term
abbrev pub sum_term : PairSum → Term
sum_term s = (pair_set s.first s.second, s.sum)

-- a constant, the coefficients of all nodes, and what is listed for pairs
abbrev pub sums_terms : ℤ → List ℤ → List PairTerm → List Term
sums_terms constant nodes pairs = ([], constant) ∷ (node_terms 0 nodes ++ map pair_term pairs)
