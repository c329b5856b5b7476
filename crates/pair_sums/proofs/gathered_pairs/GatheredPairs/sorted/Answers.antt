use Rattle.pair_sums.proofs.Common.{List, IsPermutation, IsPermutation-trans, IfOk-weaker, Entry}
use Rattle.pair_sums.proofs.PairSums.{joined-permuted}
use Rattle.pair_sums.proofs.gathered_pairs.GatheredPairs.sorted.Goals as goal

pub returns-clause-same : goal.returns-clause-same
returns-clause-same c =
    let fields = c.self.inside in
    let moved = joined-permuted fields.ordered fields.others _ _ c.self.view_is c.in_ok-joined.ensures in
    IfOk-weaker c.sorted.result (IsPermutation c.in_ok-joined.field-0) (IsPermutation c.args.self)
    (λ (es : List Entry) same. IsPermutation-trans _ _ _ moved same) c.sorted.ensures.same
