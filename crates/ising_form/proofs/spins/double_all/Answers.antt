use Rattle.ising_form.proofs.Common.{◌≡◌, ◌++◌, ◌+◌, [], pos, ◌+ℤ◌, ◌*ℤ◌, to_z, of_z, unsigned_abs, take_all, drop, drop_all, append-nil, get_or, slice_set, sym, ap, ◌∙◌, arith, rules, w128, ints, to_z-of_z, weights_within, spins_constant, spins_fields}
use Rattle.ising_form.proofs.FieldSums.{fields_more, constant_more, size-constant, next_field, field_written}
use Rattle.ising_form.proofs.spins.double_all.Goals as goal

pub overflow_mul-doubled : goal.overflow_mul-doubled
overflow_mul-doubled c =
    let h = c.loop-at-test.true in
    let same = ap (λ l. get_or l c.loop-at.at (pos 0)) c.loop-at.invariant.fields ∙ next_field _ _ h (pos 0) in
    omega (arith, ints, ap unsigned_abs same, weights_within _ _ (pos 0) h, c.requires)

pub overflow_add-sum : goal.overflow_add-sum
overflow_add-sum c =
    let h = c.loop-at-test.true in
    let same = ap (λ l. get_or l c.loop-at.at (pos 0)) c.loop-at.invariant.fields ∙ next_field _ _ h (pos 0) in
    let back = ap unsigned_abs (to_z-of_z w128 c.args.constant (search rules)) in
    let so_far = ap unsigned_abs c.loop-at.invariant.constant in
    omega (arith, ints, so_far, back, ap unsigned_abs same, size-constant, weights_within _ _ (pos 0) h, c.requires)

pub loop-at-preserved : goal.loop-at-preserved
loop-at-preserved c =
    let ws = c.args.weights.now in
    let i = c.loop-at.at in
    let lt = c.loop-at-test.true in
    let w = get_or ws i (pos 0) in
    let read = get_or c.loop-at.weights i (pos 0) in
    let same : read ≡ w = ap (λ l. get_or l i (pos 0)) c.loop-at.invariant.fields ∙ next_field ws i lt (pos 0) in
    let k = to_z w128 (of_z w128 c.args.constant) in
    let back = ap unsigned_abs (to_z-of_z w128 c.args.constant (search rules)) in
    let so_far = ap unsigned_abs c.loop-at.invariant.constant in
    let within = weights_within ws i (pos 0) lt in
    let doubled : to_z w128 (of_z w128 (pos 2 *ℤ to_z w128 (of_z w128 read))) ≡ pos 2 *ℤ w = omega (arith, ints, same, within, c.requires) in
    let old = to_z w128 c.loop-at.sum-bits in
    let next : to_z w128 (of_z w128 (old +ℤ to_z w128 (of_z w128 (pos 2 *ℤ to_z w128 (of_z w128 read))))) ≡ old +ℤ pos 2 *ℤ w =
    omega (arith, ints, same, so_far, back, size-constant, within, c.requires) in
    record {
      constant = next ∙ ap (λ z. z +ℤ pos 2 *ℤ w) c.loop-at.invariant.constant ∙ sym (constant_more k ws i (pos 0) lt);
      fields = (λ j. slice_set (c.loop-at.invariant.fields j) i (doubled j))
          ∙ field_written ws i lt (pos 2 *ℤ w)
          ∙ ap (λ fs. fs ++ drop (i + 1) ws) (sym (fields_more ws i (pos 0) lt));
    }

pub returns-clause-constant : goal.returns-clause-constant
returns-clause-constant c =
    let back = to_z-of_z w128 c.args.constant (search rules) in
    c.loop-at.invariant.constant ∙ (λ k. spins_constant (back k) (take_all _ _ c.loop-at-test.false k) [])

pub returns-clause-fields : goal.returns-clause-fields
returns-clause-fields c =
    let h = c.loop-at-test.false in
    c.loop-at.invariant.fields ∙ (λ k. spins_fields (take_all _ _ h k) [] ++ drop_all _ _ h k) ∙ append-nil _
