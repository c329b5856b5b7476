use Rattle.pair_sums.proofs.Common.{List, map, subst, length, ◌<◌, IsPermutation, All-permutation, IsPermutation-map, Entry, pair_number, listed, low_of}
use Rattle.pair_sums.proofs.PairSums.{codes-ordered, ordered-map}
use Rattle.pair_sums.proofs.listed.ListedPairs.sorted.Goals as goal

pub invariant_of-result : goal.invariant_of-result
invariant_of-result c =
    let fields = c.self.inside in
    All-permutation (λ d. low_of fields.shape d < length fields.weights) fields.codes.items _
    c.in_ok-codes.ensures.same c.self.invariant

pub returns-clause-same : goal.returns-clause-same
returns-clause-same c =
    let fields = c.self.inside in
    let sorted = map (listed fields.shape fields.weights) c.in_ok-codes.codes.items in
    subst (λ (es : List Entry). IsPermutation es sorted) c.self.view_is
    (IsPermutation-map (listed fields.shape fields.weights) _ _ c.in_ok-codes.ensures.same)

pub returns-clause-ordered : goal.returns-clause-ordered
returns-clause-ordered c =
    let fields = c.self.inside in
    ordered-map (listed fields.shape fields.weights) pair_number c.in_ok-codes.codes.items 0
    (λ i j d le in'. codes-ordered fields.shape _ _ _ _ (c.in_ok-codes.ensures.ordered i j d le in'))
