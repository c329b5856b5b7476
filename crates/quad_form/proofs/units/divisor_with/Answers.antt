use Rattle.quad_form.proofs.Common.{arith, ints, nat_tests, ◌≡◌, ℤ, List, map, unsigned_abs, to_z, of_z, subst, sym, ap, ◌∙◌, rules, w128, IsGcd, to_z-of_z, IsCommonDivisor, weight_of}
use Rattle.quad_form.proofs.Divisors.{divisor_before, divisor_of_one, divisor_at_first}
use Rattle.quad_form.proofs.units.divisor_with.Goals as goal

pub returns-then-divisor-eq1 : goal.returns-then-divisor-eq1
returns-then-divisor-eq1 c =
    grind (arith, nat_tests, divisor_of_one (map weight_of c.loop-coupler.coupler-iterator))

pub loop-coupler-preserved : goal.loop-coupler-preserved
loop-coupler-preserved c =
    let e = c.in-Some.coupler in
    let left = ap (map weight_of) c.in-Some.ensures.steps in
    let back : to_z w128 (of_z w128 e.weight) ≡ e.weight = to_z-of_z w128 e.weight (search rules) in
    let size : c.unsigned_abs.result ≡ unsigned_abs e.weight = c.unsigned_abs.ensures.value ∙ ap unsigned_abs back in
    let gcd : IsGcd c.loop-coupler.divisor (unsigned_abs e.weight) c.divisor_after-divisor.result = rw size at c.divisor_after-divisor.ensures in
    λ d rest. c.loop-coupler.invariant d
    (subst (λ (ws : List ℤ). IsCommonDivisor c.loop-coupler.divisor ws d) (sym left)
    (divisor_before c.loop-coupler.divisor e.weight (map weight_of c.next.new.self) c.divisor_after-divisor.result d gcd rest))

pub returns : goal.returns
returns c = grind (arith, nat_tests, ints, divisor_at_first c.loop-coupler.divisor)
