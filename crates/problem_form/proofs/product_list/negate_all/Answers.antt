use Rattle.problem_form.proofs.Common.{◌≡◌, ◌<◌, ◌^◌, ℕ, ℤ, List, neg_ℤ, pos, length, get_or, slice_set, to_z, of_z, sym, subst, ap, ◌∙◌, arith, rules, w128, to_z-of_z, FitsSigned, unsigned_abs, changed_to, next_unchanged, one_changed}
use Rattle.problem_form.proofs.product_list.negate_all.Goals as goal

-- the next number that is read is as it was
next_read : (xs ys : List ℤ) (i : ℕ) → ys ≡ changed_to neg_ℤ i xs → i < length xs → FitsSigned w128 (get_or ys i (pos 0))
    → to_z w128 (of_z w128 (get_or ys i (pos 0))) ≡ get_or xs i (pos 0)
next_read xs ys i same below fits =
    to_z-of_z w128 (get_or ys i (pos 0)) fits
    ∙ ap (λ (zs : List ℤ). get_or zs i (pos 0)) same ∙ next_unchanged neg_ℤ i xs below

pub negative-requires : goal.negative-requires
negative-requires c =
    let xs = c.args.numbers.now.items in
    let i = c.loop-number.number-index in
    let below : i < length xs = omega (arith, c.loop-number-test.true, ap length c.deref_mut-number-items.ensures.value) in
    let read = next_read xs c.loop-number.number-items i c.loop-number.invariant below (search rules) in
    subst (λ z. unsigned_abs z < 2 ^ 127) (sym read) (c.requires i (pos 0) below)

pub loop-number-preserved : goal.loop-number-preserved
loop-number-preserved c =
    let xs = c.args.numbers.now.items in
    let i = c.loop-number.number-index in
    let below : i < length xs = omega (arith, c.loop-number-test.true, ap length c.deref_mut-number-items.ensures.value) in
    let read = next_read xs c.loop-number.number-items i c.loop-number.invariant below (search rules) in
    let value : to_z w128 (of_z w128 c.negative.result) ≡ neg_ℤ (get_or xs i (pos 0)) =
    to_z-of_z w128 c.negative.result (search rules) ∙ c.negative.ensures ∙ ap neg_ℤ read in
    (λ j. slice_set (c.loop-number.invariant j) i (value j)) ∙ one_changed neg_ℤ i xs below
