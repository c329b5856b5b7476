use Rattle.quadratization.proofs.Common.{nat_tests, arith, subst, sym, short_part, AreHeld}
use Rattle.quadratization.proofs.HeldSums.{fits-wider, held-sums, sums-held}
use Rattle.quadratization.proofs.gathered.DirectTerms.widened.Goals as goal

pub invariant_of-result : goal.invariant_of-result
invariant_of-result c = grind (arith, nat_tests, fits-wider)

pub returns-clause-held : goal.returns-clause-held
returns-clause-held c t additions held =
    let here = subst (AreHeld t) (sym c.self.view_is) held in
    held-sums c.in_ok-widened.field-0 c.self.inside.long (record t { width = c.args.nodes })
    (c.in_ok-widened.ensures.held (short_part t) (sums-held c.self.inside.sums c.self.inside.long t here)) here.long
