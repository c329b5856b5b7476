use Rattle.problem_form.proofs.Common.{◌≡◌, ◌∙◌, sym, ap, Some, ◌-ℤ◌, to_z, of_z, arith, w128, ints, ProblemContent, lower, penalty_above}
use Rattle.problem_form.proofs.problem.Problem.penalty.Goals as goal

pub returns-in-Some-clause-value : goal.returns-in-Some-clause-value
returns-in-Some-clause-value c =
    let p = c.args.self.now in
    let most : p.most ≡ Some c.in-Some.most =
    sym (ap (λ (q : ProblemContent). q.most) c.self.view_is) ∙ c.in-Some.is in
    let least : to_z w128 (of_z w128 (to_z w128 (of_z w128 c.own_upper.result)
    -ℤ to_z w128 c.cost_size-gain.result)) ≡ lower p =
    omega (arith, ints) in
    let same : to_z w128 (of_z w128 c.in-Some.most) ≡ c.in-Some.most =
    omega (arith, ints, c.self.invariant.0.most c.in-Some.most c.in-Some.is) in
    c.penalty_above.ensures
    ∙ (λ i. penalty_above ((ap (λ n. Some n) same ∙ sym most) i) (least i) (c.cost_size-gain.ensures.value i))
