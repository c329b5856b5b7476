use Rattle.posiform_check.proofs.Sums.{sums_none}
use Rattle.posiform_check.proofs.set_sums.SetSums.new.Goals as goal

pub returns : goal.returns
returns c =
    sums_none _ _ _ (c.in_ok-vec.ensures.items_if_clones_equal (λ y e. e)) c.new.ensures.items
