use Rattle.embedding_check.specs.Least.{IsArrow}
use Rattle.embedding_check.proofs.Noting.{least_pair_of_two, place_of_arrows}
use Rattle.embedding_check.proofs.least.place_between.Goals as goal

pub returns : goal.returns
returns g c =
    place_of_arrows _ _ _ c.lesser_pair.result
    (least_pair_of_two (IsArrow _ _ _) (IsArrow _ _ _) c.arrow-up.result c.arrow-down.result c.lesser_pair.result
    c.arrow-up.ensures c.arrow-down.ensures c.lesser_pair.ensures.left c.lesser_pair.ensures.right c.lesser_pair.ensures.both)
