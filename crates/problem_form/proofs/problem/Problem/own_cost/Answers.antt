use Rattle.problem_form.proofs.Lemmas.{arith, ap, ◌∙◌, ints, content_within, own_cost, sum_of, cost_parts, own_cost-whole}
use Rattle.problem_form.proofs.problem.Problem.own_cost.Goals as goal

pub overflow_add-result : goal.overflow_add-result
overflow_add-result c =
    let sum = c.sum_of_products-sum.ensures ∙ ap (sum_of c.args.x.now) c.iter.ensures in
    omega (arith, ints, cost_parts (content_within c.self.inside) c.args.x.now)

pub overflow_add-result-2 : goal.overflow_add-result-2
overflow_add-result-2 c =
    let sum = c.sum_of_products-sum.ensures ∙ ap (sum_of c.args.x.now) c.iter.ensures in
    omega (arith, ints, cost_parts (content_within c.self.inside) c.args.x.now)

pub returns : goal.returns
returns c =
    let x = c.args.x.now in
    let p = content_within c.self.inside in
    let sum = c.sum_of_products-sum.ensures ∙ ap (sum_of x) c.iter.ensures in
    own_cost-whole p x _ (cc) (cc) (omega (arith, ints, sum, cost_parts p x))
    ∙ ap (λ f. own_cost f x) c.self.view_is
