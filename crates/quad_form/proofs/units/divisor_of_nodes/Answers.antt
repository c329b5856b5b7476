use Rattle.quad_form.proofs.Common.{◌≡◌, to_z, of_z, rules, ℤ, pos, unsigned_abs, List, take, drop, get_or, subst, ap, ◌∙◌, w128, to_z-of_z, take_more, take-append-drop, IsCommonDivisor}
use Rattle.quad_form.proofs.Divisors.{divisor_more, divisor_stays_one}
use Rattle.quad_form.proofs.units.divisor_of_nodes.Goals as goal

pub returns-then-divisor-eq1 : goal.returns-then-divisor-eq1
returns-then-divisor-eq1 c =
    let ws = c.args.weights.now in
    let i = c.loop-weight.weight-index in
    let one : IsCommonDivisor 0 (take i ws) 1 = rw (← c.if-divisor-eq1.true) c.loop-weight.invariant in
    subst (λ (vs : List ℤ). IsCommonDivisor 0 vs 1) (take-append-drop i ws)
    (divisor_stays_one 0 (take i ws) (drop i ws) one)

pub loop-weight-preserved : goal.loop-weight-preserved
loop-weight-preserved c =
    let ws = c.args.weights.now in
    let i = c.loop-weight.weight-index in
    let w = get_or ws i (pos 0) in
    let back : to_z w128 (of_z w128 w) ≡ w = to_z-of_z w128 w (search rules) in
    let size : c.unsigned_abs.result ≡ unsigned_abs w = c.unsigned_abs.ensures.value ∙ ap unsigned_abs back in
    rw (take_more ws i (pos 0) c.loop-weight-test.true)
    (divisor_more 0 (take i ws) w _ _ c.loop-weight.invariant (rw size at c.divisor_after-divisor.ensures))
