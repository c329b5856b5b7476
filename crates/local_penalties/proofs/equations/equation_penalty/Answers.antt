use Rattle.local_penalties.proofs.Common.{◌≡◌, ◌∙◌, ap, arith, rules, room, need, number_of, common_size, is_stepped, true, false, ◌-◌, far, price_of_side}
use Rattle.std.proofs.Math.Nat.{div-le_self}
use Rattle.local_penalties.proofs.LocalSteps.{above-small, below-small, equation-price}
use Rattle.local_penalties.proofs.equations.equation_penalty.Goals as goal

pub price_of_side-requires-clause-steps : goal.price_of_side-requires-clause-steps
price_of_side-requires-clause-steps c =
    let is : c.above_of-above.result ≡ room c.args.constraint.now = search rules in
    omega (arith, is, above-small c.args.constraint.now c.requires.total, div-le_self c.above_of-above.result c.common_size-size.result)

pub price_of_side-requires-2-clause-steps : goal.price_of_side-requires-2-clause-steps
price_of_side-requires-2-clause-steps c =
    let is : c.most_below-below.result ≡ need c.args.constraint.now = search rules in
    omega (arith, is, below-small c.args.constraint.now c.requires.total, div-le_self c.most_below-below.result c.common_size-size.result)

pub returns-clause-value : goal.returns-clause-value
returns-clause-value c =
    let k = c.args.constraint.now in
    let above : c.above_of-above.result ≡ room k = search rules in
    let below : c.most_below-below.result ≡ need k = search rules in
    let size : c.common_size-size.result ≡ common_size k.products = search rules in
    let is : is_stepped k ≡ true = search rules in
    let first : c.again-products.result ≡ k.products = search rules in
    let second : c.again-products-2.result ≡ k.products = search rules in
    equation-price (number_of c.args.numbers.now) k c.common_size-size.result c.most_below-below.result c.above_of-above.result
    c.in_ok-up.up c.in_ok-down.down c.max.result is size below above
    (c.in_ok-up.ensures.value ∙ ap (price_of_side true (λ l. number_of c.args.numbers.now l - far) _ _) first)
    (c.in_ok-down.ensures.value ∙ ap (price_of_side false (λ l. number_of c.args.numbers.now l - far) _ _) second)
    c.max.ensures
