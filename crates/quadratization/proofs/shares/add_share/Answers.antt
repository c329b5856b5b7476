use Rattle.quadratization.proofs.Common.{rules, arith, w128, to_z-of_z, gain-one}
use Rattle.quadratization.proofs.shares.add_share.Goals as goal

pub returns : goal.returns
returns c =
    gain-one c.args.weights.now c.add_weight.new.weights c.args.node _ c.args.share _ c.requires.within
    (to_z-of_z w128 c.args.share (search rules)) (omega arith) c.add_weight.ensures
