use Rattle.quadratization.proofs.Common.{nat_tests, arith, append-nil, drop_all}
use Rattle.quadratization.proofs.SummedRows.{head_step}
use Rattle.quadratization.proofs.heads.push_heads.Goals as goal

pub loop-head-preserved : goal.loop-head-preserved
loop-head-preserved c =
    head_step c.args.heads.now c.loop-head.head-index _ c.loop-head.couplers c.push_head.new.couplers _
    c.loop-head-test.true c.in_ok-push_head.ensures c.loop-head.invariant

pub returns : goal.returns
returns c = grind (arith, nat_tests, drop_all, append-nil)
