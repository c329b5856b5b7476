use Rattle.edge_io.proofs.Common.{◌∙◌, arith, common_steps}
use Rattle.edge_io.proofs.whole.read_all.Goals as goal

pub loop-count-preserved : goal.loop-count-preserved
loop-count-preserved g c =
    let was = c.loop-count.invariant in
    let now = c.in-Ok.ensures in
    record {
      within = grind (arith, common_steps);
      taken = grind (arith, common_steps);
      filled = now.nothing.1 (omega arith) ∙ was.filled;
      front = grind (arith, common_steps);
      held = now.held ∙ was.held;
      begun = now.same_begin ∙ was.begun;
      marked = now.same_mark ∙ was.marked;
      named = now.same_name ∙ was.named;
      calm = now.cause.calm ∙ was.calm;
    }

pub returns-then-len-count-clause-longer : goal.returns-then-len-count-clause-longer
returns-then-len-count-clause-longer g c = grind (arith, common_steps)
