use Rattle.bits_model.proofs.Common.{◌≡◌, ◌<◌, ℤ, List, int_div, pos, length, get_or, slice_set, to_z, of_z, ap, ◌∙◌, arith, rules, w64, w128, to_z-of_z, next_unchanged, one_changed}
use Rattle.bits_model.proofs.weights.divide_narrow.Goals as goal

pub loop-weight-preserved : goal.loop-weight-preserved
loop-weight-preserved c =
    let f : ℤ → ℤ = λ w. int_div w (to_z w128 (of_z w128 c.args.unit)) in
    let xs = c.args.weights.items in
    let ys = c.loop-weight.weight-items in
    let i = c.loop-weight.weight-index in
    let below : i < length xs = omega (arith, c.loop-weight-test.true, ap length c.deref_mut-weight-items.ensures.value) in
    let written : to_z w64 (of_z w64 c.narrow_quotient.result) ≡ c.narrow_quotient.result = to_z-of_z w64 c.narrow_quotient.result (search rules) in
    let read : to_z w64 (of_z w64 (get_or ys i (pos 0))) ≡ get_or ys i (pos 0) = to_z-of_z w64 (get_or ys i (pos 0)) (search rules) in
    let value : to_z w64 (of_z w64 c.narrow_quotient.result) ≡ f (get_or xs i (pos 0)) =
    written ∙ c.narrow_quotient.ensures
    ∙ ap f (read ∙ ap (λ (zs : List ℤ). get_or zs i (pos 0)) c.loop-weight.invariant ∙ next_unchanged f i xs below) in
    (λ j. slice_set (c.loop-weight.invariant j) i (value j)) ∙ one_changed f i xs below
