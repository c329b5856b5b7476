use Rattle.problem_form.proofs.Lemmas.{◌≡◌, ◌∙◌, ◌+◌, ◌*◌, ◌^◌, ap, arith, count_by, is_none, unsigned_abs, sum_by, ints, Clause, Constraint, ProblemContent, answered_number, cost_size, penalty, reach, answered_sum_of_3}
use Rattle.problem_form.proofs.counts.weight_of.Goals as goal

pub returns : goal.returns
returns c =
    let p = c.args.problem.now in
    let costs : c.unsigned_abs.result + c.cost_size-costs.result
    ≡ answered_number (unsigned_abs p.constant + cost_size p) =
    omega (arith, ints, ap (λ (q : ProblemContent). unsigned_abs q.constant) c.problem.view_is) in
    let hard : c.saturating_mul-hard.result
    ≡ answered_number (penalty p * count_by (λ (k : Clause). is_none k.weight) p.clauses) =
    c.saturating_mul-hard.ensures ∙ (λ i. answered_number (c.penalty-penalty.ensures.value i
    * (c.hard_clauses.ensures
    ∙ ap (λ (q : ProblemContent). count_by (λ (k : Clause). is_none k.weight) q.clauses) c.problem.view_is) i)) in
    let squares : c.squares.result
    ≡ answered_number (sum_by (λ (k : Constraint). penalty p * reach k ^ 2) p.constraints) =
    c.squares.ensures
    ∙ (λ i. answered_number (sum_by (λ (k : Constraint). c.penalty-penalty.ensures.value i * reach k ^ 2)
    (c.problem.view_is i).constraints)) in
    answered_sum_of_3 _ _ _ _ _ _ _ _ costs hard squares c.saturating_add.ensures c.saturating_add-2.ensures
