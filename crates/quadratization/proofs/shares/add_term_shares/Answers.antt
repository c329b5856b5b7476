use Rattle.quadratization.proofs.Common.{rules, arith, w128, to_z-of_z, sum_by-cons}
use Rattle.quadratization.proofs.GainedShares.{gain-weaker}
use Rattle.quadratization.proofs.shares.add_term_shares.Goals as goal

pub add_negative-requires-clause-small : goal.add_negative-requires-clause-small
add_negative-requires-clause-small c =
    let back = to_z-of_z w128 c.args.term.coefficient (search rules) in
    let small = rw (rw back at c.if-coefficient-lt0.true) at c.requires.small in
    rw (back, c.len.ensures, c.requires.negated) (omega (arith, small, sum_by-cons))

pub returns-then-coefficient-lt0 : goal.returns-then-coefficient-lt0
returns-then-coefficient-lt0 c =
    let back = to_z-of_z w128 c.args.term.coefficient (search rules) in
    let gain = rw (back, c.len.ensures, c.requires.negated) at c.add_negative.ensures in
    rw (rw back at c.if-coefficient-lt0.true) (gain-weaker _ _ _ _ _ (omega (arith, sum_by-cons)) gain)
