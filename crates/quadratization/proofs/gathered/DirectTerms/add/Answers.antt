use Rattle.quadratization.proofs.Common.{nat_tests, ints, rules, arith, subst, sym, to_z, of_z, w128, to_z-of_z, on_ok_weaker, short_part, AreHeld}
use Rattle.quadratization.proofs.HeldSums.{both_ok, either, fits-short, held-short, sums-held}
use Rattle.quadratization.proofs.gathered.DirectTerms.add.Goals as goal

pub invariant_of-self : goal.invariant_of-self
invariant_of-self c = grind (arith, nat_tests, ints, to_z-of_z, either, both_ok, fits-short)

pub returns-then-literals-le2-clause-added : goal.returns-then-literals-le2-clause-added
returns-then-literals-le2-clause-added c t held =
    let here = subst (AreHeld t) (sym c.self.view_is) held in
    on_ok_weaker c.add.result
    (held-short _ _ c.args.literals.now (to_z w128 (of_z w128 c.args.coefficient)) c.add.new.self t
    c.args.coefficient (to_z-of_z w128 c.args.coefficient (search rules)) (search rules) here)
    (c.add.ensures.added (short_part t) (sums-held _ _ t here))
