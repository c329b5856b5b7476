use Rattle.pair_sums.proofs.Common.{◌≡◌, ◌^◌, List, sym, subst, arith, length, All, nil_from_length, All-permutation, IfOk-weaker, Entry, IsPair, AreSummed}
use Rattle.pair_sums.proofs.PairSums.{joined-permuted, summed-ordered, summed-permuted}
use Rattle.pair_sums.proofs.gathered_pairs.GatheredPairs.summed.Goals as goal

pub returns-then-len-eq0 : goal.returns-then-len-eq0
returns-then-len-eq0 c =
    let fields = c.self.inside in
    let empty : length fields.others ≡ 0 = omega (arith, c.len.ensures, c.if-len-eq0.true) in
    let pairs = subst (λ (es : List Entry). All (IsPair (2 ^ 32)) es) (sym c.self.view_is) c.requires.pairs in
    subst (λ (es : List Entry). AreSummed es fields.ordered) c.self.view_is
    (summed-ordered fields.ordered fields.last fields.others c.self.invariant (nil_from_length fields.others empty) pairs)

pub summed-requires-clause-pairs : goal.summed-requires-clause-pairs
summed-requires-clause-pairs c =
    let fields = c.self.inside in
    let moved = joined-permuted fields.ordered fields.others _ _ c.self.view_is c.in_ok-joined.ensures in
    All-permutation (IsPair (2 ^ 32)) _ _ moved c.requires.pairs

pub returns : goal.returns
returns c =
    let fields = c.self.inside in
    let moved = joined-permuted fields.ordered fields.others _ _ c.self.view_is c.in_ok-joined.ensures in
    IfOk-weaker c.summed.result (AreSummed c.in_ok-joined.field-0) (AreSummed c.args.self)
    (λ (es : List Entry) summed. summed-permuted _ _ es moved summed) c.summed.ensures
