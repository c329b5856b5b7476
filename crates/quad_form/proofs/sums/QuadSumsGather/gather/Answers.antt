use Rattle.quad_form.proofs.Common.{rules, ◌≤◌, ap, arith, length, unsigned_abs, w128, to_z-of_z, All-head, Term, IsTermSet, terms_total-cons}
use Rattle.quad_form.proofs.HeldSums.{room_if_ok}
use Rattle.quad_form.proofs.sums.QuadSumsGather.gather.Goals as goal

pub add-requires-clause-set : goal.add-requires-clause-set
add-requires-clause-set c =
    All-head (λ (u : Term). IsTermSet (length c.args.self.now.weights) u.0) (c.args.literals.now, c.args.coefficient)
    c.requires.0 c.requires.1.sets

pub add-requires-clause-short : goal.add-requires-clause-short
add-requires-clause-short c =
    All-head (λ (u : Term). length u.0 ≤ 2) (c.args.literals.now, c.args.coefficient) c.requires.0 c.requires.1.low

pub add-requires-clause-small : goal.add-requires-clause-small
add-requires-clause-small c =
    omega (arith, ap unsigned_abs (to_z-of_z w128 c.args.coefficient (search rules)), terms_total-cons)

pub returns-clause-takes : goal.returns-clause-takes
returns-clause-takes c more room =
    room_if_ok c.add.result c.args.self.now c.add.new.self c.args.literals.now _ c.args.coefficient more
    (to_z-of_z w128 c.args.coefficient (search rules)) room c.add.ensures.width c.add.ensures.total
