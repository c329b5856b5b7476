use Rattle.quadratization.proofs.Common.{◌≡◌, ◌≤◌, ◌^◌, ◌∷◌, [], ◌++◌, ◌+◌, ℕ, ℤ, neg_ℤ, ◌*ℤ◌, pos, unsigned_abs, FitsSigned, to_z, of_z, ap, sym, ◌∙◌, append_assoc, arith, rules, w128, ints, to_z-of_z, fits_signed_from_abs, factor, signed, node_couplers, factor_cases, inl, inr, ◌⊎◌}
use Rattle.quadratization.proofs.SummedRows.{node_couplers-more, turned}
use Rattle.quadratization.proofs.heads.push_nodes.Goals as goal

-- the coefficient counts once or twice, so its product fits
times_fits : (c f : ℤ) (m : ℕ) → f ≡ pos m → (m ≡ 1) ⊎ (m ≡ 2) → unsigned_abs c ≤ 2 ^ 124
    → FitsSigned w128 (to_z w128 (of_z w128 c) *ℤ to_z w128 (of_z w128 f))
times_fits c f m is (inl one) small = rw (is, one) (fits_signed_from_abs w128 _ (omega (arith, ints, small)))
times_fits c f m is (inr two) small = rw (is, two) (fits_signed_from_abs w128 _ (omega (arith, ints, small)))

small_turned : (c : ℤ) (m : ℕ) → (m ≡ 1) ⊎ (m ≡ 2) → unsigned_abs c ≤ 2 ^ 124
    → unsigned_abs (neg_ℤ (c *ℤ pos m)) ≤ 2 ^ 125
small_turned c m (inl one) small = rw one (omega (arith, ints, small))
small_turned c m (inr two) small = rw two (omega (arith, ints, small))

pub overflow_mul-coefficient : goal.overflow_mul-coefficient
overflow_mul-coefficient c =
    times_fits c.args.coefficient c.from.result (factor c.args.degree c.loop-k.k) (c.from.ensures ∙ ap pos c.factor.ensures)
    (factor_cases c.args.degree c.loop-k.k) c.requires.small

pub signed-weight-requires : goal.signed-weight-requires
signed-weight-requires c =
    let d = c.args.degree in
    let i = c.loop-k.k in
    let is = c.from.ensures ∙ ap pos c.factor.ensures in
    let same = turned c.args.coefficient c.from.result (factor d i) is (factor_cases d i) c.requires.small in
    omega (arith, ap unsigned_abs same, small_turned c.args.coefficient (factor d i) (factor_cases d i) c.requires.small)

pub overflow_add-first_node : goal.overflow_add-first_node
overflow_add-first_node c =
    omega (arith, c.loop-k-test.true, c.nodes_for-k-end.ensures, c.requires.nodes)

pub loop-k-preserved : goal.loop-k-preserved
loop-k-preserved c =
    let l = c.args.literal in
    let d = c.args.degree in
    let k = c.args.coefficient in
    let n = c.args.first_node in
    let i = c.loop-k.k in
    let back = to_z-of_z w128 k c.ranges.coefficient in
    let so_far = rw back at c.loop-k.invariant in
    let weighs : to_z w128 (of_z w128 c.signed-weight.result) ≡ signed l (neg_ℤ (k *ℤ pos (factor d i))) =
    to_z-of_z w128 c.signed-weight.result (search rules) ∙ c.signed-weight.ensures
    ∙ ap (signed l) (turned k c.from.result (factor d i) (c.from.ensures ∙ ap pos c.factor.ensures) (factor_cases d i) c.requires.small) in
    rw back (
    c.in_ok-push.ensures.pushed
    ∙ (λ j. so_far j ++ record { first = l.variable; second = n + i; weight = weighs j } ∷ [])
    ∙ append_assoc c.args.couplers.now (node_couplers l d k n i) _
    ∙ ap (λ es. c.args.couplers.now ++ es) (sym (node_couplers-more l d k n i))
    )
