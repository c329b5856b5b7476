use Rattle.std.proofs.Common.{arith}
use Rattle.chimera_graph.specs.laws.Findable.{step_below}
use Rattle.chimera_graph.proofs.lines.ChimeraHardware.other.Goals as goal

pub overflow_sub-result : goal.overflow_sub-result
overflow_sub-result c =
    let from = c.requires.place.from in
    let low = step_below c.args.self.now c.args.a (omega (arith, from, c.if-k-eq0.true)) in
    omega (arith, low, c.step-step.ensures)
