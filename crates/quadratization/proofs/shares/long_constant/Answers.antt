use Rattle.quadratization.proofs.Common.{◌≡◌, ◌≤◌, ◌*◌, ◌-◌, ◌*ℤ◌, rules, arith, ints, mul-le-mul, refl, ◌∙◌, pos, to_z, w128, to_z-of_z}
use Rattle.std.proofs.Common.{◌/◌}
use Rattle.quadratization.proofs.shares.long_constant.Goals as goal

pub product-requires-clause-count : goal.product-requires-clause-count
product-requires-clause-count c =
    let few : c.saturating_sub.result ≤ 2047 = omega (arith, c.saturating_sub.ensures, c.requires.negated) in
    omega (arith, ints, mul-le-mul c.requires.negated few)

pub returns-then-coefficient-lt0 : goal.returns-then-coefficient-lt0
returns-then-coefficient-lt0 c = λ ls e.
    rw (rw (to_z-of_z w128 c.args.coefficient (search rules)) at c.if-coefficient-lt0.true) refl

pub returns-else-coefficient-lt0 : goal.returns-else-coefficient-lt0
returns-else-coefficient-lt0 c = λ ls e.
    let back = to_z-of_z w128 c.args.coefficient (search rules) in
    let few : c.saturating_sub.result ≤ 2047 = omega (arith, c.saturating_sub.ensures, c.requires.negated) in
    let times : to_z w128 (c.args.negated * c.saturating_sub.result / 2) ≡ pos (c.args.negated * (c.args.negated - 1) / 2) =
    rw (← c.saturating_sub.ensures) (omega (arith, ints, mul-le-mul c.requires.negated few)) in
    rw (rw back at c.if-coefficient-lt0.false, ← e)
    (to_z-of_z w128 c.product.result (search rules) ∙ c.product.ensures.value ∙ (λ i. back i *ℤ times i))
