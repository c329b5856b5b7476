use Rattle.posiform_check.proofs.Common.{◌∷◌, [], map, take, AreSameForms, pair_term, sum_term}
use Rattle.posiform_check.proofs.set_sums.pairs_cancel.Given as goal

-- the terms so far come to the sum
abbrev pub invariant-loop-pair : goal.invariant-loop-pair
invariant-loop-pair l =
    AreSameForms (map pair_term (take l.pair-index l.pairs)) (sum_term l.sum ∷ [])
