use Rattle.penalty_layer.proofs.Common.{FitsSigned, ◌≡◌, ◌++◌, ◌-ℤ◌, Bool, List, OnOk, ℤ, subst, sym, ap, ◌∙◌, rules, arith, to_z, of_z, w128, ints, to_z-of_z, fits_signed_from_abs, Product, Constraint, sum_of, sum_of-size, slack_range-le, value_bits, clamped, slack_state}
use Rattle.penalty_layer.proofs.slack.push_slack.Goals as goal

pub overflow_sub-above : goal.overflow_sub-above
overflow_sub-above c =
    let k = c.args.constraint.now in
    let value : c.sum_of_products.result ≡ sum_of c.args.x.now k.products =
    c.sum_of_products.ensures
    ∙ ap (λ (ts : List Product). sum_of c.args.x.now ts) (c.again.ensures ∙ ap (λ (q : Constraint). q.products) c.constraint.view_is) in
    let bound : to_z w128 (of_z w128 c.constraint.inside.bound) ≡ k.bound =
    to_z-of_z w128 c.constraint.inside.bound (search rules) ∙ ap (λ (q : Constraint). q.bound) c.constraint.view_is in
    let sum : to_z w128 (of_z w128 c.sum_of_products.result) ≡ sum_of c.args.x.now k.products =
    to_z-of_z w128 c.sum_of_products.result (search rules) ∙ value in
    let small = c.requires in
    subst (λ (z : ℤ). FitsSigned w128 z) (sym (λ i. sum i -ℤ bound i))
    (fits_signed_from_abs w128 (sum_of c.args.x.now k.products -ℤ k.bound) (omega (arith, ints, sum_of-size c.args.x.now k.products)))

pub push_bits-requires : goal.push_bits-requires
push_bits-requires c =
    omega (arith, slack_range-le c.args.constraint.now, c.requires, c.slack_range_of-range.ensures)

pub returns : goal.returns
returns c =
    let k = c.args.constraint.now in
    let x = c.args.x.now in
    let r = c.slack_range_of-range.result in
    let value : c.sum_of_products.result ≡ sum_of x k.products =
    c.sum_of_products.ensures
    ∙ ap (λ (ts : List Product). sum_of x ts) (c.again.ensures ∙ ap (λ (q : Constraint). q.products) c.constraint.view_is) in
    let bound : to_z w128 (of_z w128 c.constraint.inside.bound) ≡ k.bound =
    to_z-of_z w128 c.constraint.inside.bound (search rules) ∙ ap (λ (q : Constraint). q.bound) c.constraint.view_is in
    let sum : to_z w128 (of_z w128 c.sum_of_products.result) ≡ sum_of x k.products =
    to_z-of_z w128 c.sum_of_products.result (search rules) ∙ value in
    let small = c.requires in
    let fits : FitsSigned w128 (sum_of x k.products -ℤ k.bound) =
    fits_signed_from_abs w128 (sum_of x k.products -ℤ k.bound) (omega (arith, ints, sum_of-size x k.products)) in
    let above : to_z w128 (of_z w128 (to_z w128 (of_z w128 c.sum_of_products.result) -ℤ to_z w128 (of_z w128 c.constraint.inside.bound)))
    ≡ sum_of x k.products -ℤ k.bound =
    ap (λ z. to_z w128 (of_z w128 z)) (λ i. sum i -ℤ bound i) ∙ to_z-of_z w128 (sum_of x k.products -ℤ k.bound) fits in
    let slack : c.clamped.result ≡ clamped r (sum_of x k.products -ℤ k.bound) =
    c.clamped.ensures ∙ ap (clamped r) above in
    let bits : value_bits r c.clamped.result ≡ slack_state x k =
    (λ i. value_bits (c.slack_range_of-range.ensures i)
    ((slack ∙ ap (λ n. clamped n (sum_of x k.products -ℤ k.bound)) c.slack_range_of-range.ensures) i)) in
    subst (λ (bs : List Bool). OnOk c.push_bits.result (c.push_bits.new.bits.items ≡ c.args.bits.now.items ++ bs))
    bits c.push_bits.ensures
