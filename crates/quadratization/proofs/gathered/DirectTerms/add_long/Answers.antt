use Rattle.quadratization.proofs.Common.{nat_tests, ints, rules, ◌≡◌, ap, arith, length, subst, sym, to_z, of_z, unsigned_abs, ℤ, w128, to_z-of_z, on_ok_weaker, IsTermSet, HeldContent}
use Rattle.quadratization.proofs.HeldSums.{either, fits-long, held-long}
use Rattle.quadratization.proofs.gathered.DirectTerms.add_long.Goals as goal

pub invariant_of-self : goal.invariant_of-self
invariant_of-self c =
    let same = c.self.view_is in
    let z : ℤ = to_z w128 (of_z w128 c.args.coefficient) in
    let is : z ≡ c.args.coefficient = to_z-of_z w128 c.args.coefficient (search rules) in
    let ls = c.args.literals.now in
    either c.push.result c.push.ensures.pushed c.push.ensures.unchanged
    (fits-long c.self.inside.sums c.self.inside.long ls z c.push.new.self c.self.invariant c.requires.long
    (subst (λ (k : HeldContent). IsTermSet (length k.weights) ls) (sym same) c.requires.set)
    (omega (arith, c.requires.small, ap unsigned_abs is, ap (λ (k : HeldContent). k.total) same)))
    (λ e. rw e c.self.invariant)

pub returns-clause-added : goal.returns-clause-added
returns-clause-added c t held = grind (arith, nat_tests, ints, on_ok_weaker, held-long, to_z-of_z)
