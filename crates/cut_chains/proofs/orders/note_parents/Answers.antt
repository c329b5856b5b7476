use Rattle.cut_chains.proofs.Common.{refl}
use Rattle.cut_chains.proofs.Noting.{noted_more}
use Rattle.cut_chains.proofs.orders.note_parents.Goals as goal

pub loop-i-preserved : goal.loop-i-preserved
loop-i-preserved c =
    noted_more c.args.up.now c.loop-i.up _ c.args.chain.now c.args.parents.now c.loop-i.i
    c.requires.matched c.loop-i-test.true c.requires.different c.requires.inside c.loop-i.invariant refl
