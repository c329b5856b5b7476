use Rattle.quad_form.proofs.Common.{◌≤◌, ◌^◌, ℕ, sym, subst, arith, ints, IsCommonDivisor, weights_of}
use Rattle.quad_form.proofs.Divisors.{unit_from_zero, unit_from_divisor}
use Rattle.quad_form.proofs.UnitEntries.{divisor_of_weights, divisor_low}
use Rattle.quad_form.proofs.units.greatest_unit.Goals as goal

pub overflow_cast-result : goal.overflow_cast-result
overflow_cast-result c =
    let nodes = c.args.nodes.now in
    let couplers = c.args.couplers.now in
    let whole = divisor_of_weights nodes couplers _ _ c.divisor_of_nodes.ensures c.divisor_with-divisor.ensures in
    let low : c.divisor_with-divisor.result ≤ 2 ^ 124 = divisor_low nodes couplers _ _ whole c.requires in
    omega (arith, ints, low)

pub returns-then-divisor-eq0 : goal.returns-then-divisor-eq0
returns-then-divisor-eq0 c =
    let nodes = c.args.nodes.now in
    let couplers = c.args.couplers.now in
    let whole = divisor_of_weights nodes couplers _ _ c.divisor_of_nodes.ensures c.divisor_with-divisor.ensures in
    let P : ℕ → Type 0 = λ d. IsCommonDivisor 0 (weights_of nodes couplers) d in
    sym (unit_from_zero (weights_of nodes couplers) (subst P c.if-divisor-eq0.true whole))

pub returns-else-divisor-eq0 : goal.returns-else-divisor-eq0
returns-else-divisor-eq0 c =
    let nodes = c.args.nodes.now in
    let couplers = c.args.couplers.now in
    let d = c.divisor_with-divisor.result in
    let whole = divisor_of_weights nodes couplers _ _ c.divisor_of_nodes.ensures c.divisor_with-divisor.ensures in
    let low : d ≤ 2 ^ 124 = divisor_low nodes couplers _ _ whole c.requires in
    let one : 1 ≤ d = grind (arith, c.if-divisor-eq0.false) in
    omega (arith, ints, low, unit_from_divisor (weights_of nodes couplers) d one whole)
