use Rattle.pair_sums.proofs.Common.{List, map, ap, sym, subst, IsPermutation, IsPermutation-map, Entry, pair_number, unpacked, held_pairs}
use Rattle.pair_sums.proofs.PairSums.{codes-ordered, ordered-map}
use Rattle.pair_sums.proofs.pairs.sorted_pairs.Goals as goal

pub returns-in_ok-codes-in-Packed-clause-same : goal.returns-in_ok-codes-in-Packed-clause-same
returns-in_ok-codes-in-Packed-clause-same c =
    subst (λ (es : List Entry). IsPermutation es (map (unpacked c.in-Packed.shape) c.in_ok-codes-in-Packed.codes.items)) (ap held_pairs (sym c.in-Packed.is))
    (IsPermutation-map (unpacked c.in-Packed.shape) _ _ c.in_ok-codes-in-Packed.ensures.same)

pub returns-in_ok-codes-in-Packed-clause-ordered : goal.returns-in_ok-codes-in-Packed-clause-ordered
returns-in_ok-codes-in-Packed-clause-ordered c =
    let shape = c.in-Packed.shape in
    ordered-map (unpacked shape) pair_number c.in_ok-codes-in-Packed.codes.items 0
    (λ i j d le in'. codes-ordered shape _ _ _ _ (c.in_ok-codes-in-Packed.ensures.ordered i j d le in'))
