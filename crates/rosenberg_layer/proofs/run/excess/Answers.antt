use Rattle.rosenberg_layer.proofs.Common.{◌^◌, arith, rest_more, Term}
use Rattle.rosenberg_layer.proofs.Turns.{excess_fits}
use Rattle.rosenberg_layer.proofs.run.excess.Goals as goal

pub overflow_add-sum : goal.overflow_add-sum
overflow_add-sum c =
    let t : Term = (c.in-Some.literals.now, c.in-Some.field-0-1) in
    let left =
    rest_more _ c.loop-literals.literals-iterator c.next.new.self c.next.result
    (c.in-Some.literals, c.in-Some.field-0-1) c.in-Some.is c.next.ensures.steps in
    let fits =
    excess_fits c.loop-literals.sum (2 ^ 32) t _ _ c.args.table.now.content.terms left
    c.loop-literals.invariant c.requires in
    omega (arith, c.saturating_sub-sum.ensures, fits)
