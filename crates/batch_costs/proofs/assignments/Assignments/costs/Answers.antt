use Rattle.batch_costs.proofs.Common.{◌≡◌, ◌<◌, pos, get_or, arith, ap, sym, subst, rules, ◌∙◌, to_z, of_z, ◌+ℤ◌, w128, ints, content_within, ProblemContent, own_cost, sum_of, cost_parts, assignment, IsPlain}
use Rattle.base.specs.declared.costs.Cost.TheVariants.{Infinite}
use Rattle.batch_costs.proofs.PlainCosts.{filled_more, plain_cost}
use Rattle.batch_costs.proofs.assignments.Assignments.costs.Goals as goal

pub overflow_add-costs : goal.overflow_add-costs
overflow_add-costs c =
    let k = c.loop-k.k in
    let p = content_within c.problem.inside in
    let words = c.deref.result.now in
    let below : k < 64 = omega (arith, c.loop-k-test.true, c.loop-k.auto.costs, c.requires.few) in
    let sum = c.add_products.ensures k below ∙ ap (sum_of (assignment words k)) c.iter.ensures in
    omega (arith, ints, sum, cost_parts p (assignment words k), c.problem.invariant.1)

pub loop-k-preserved : goal.loop-k-preserved
loop-k-preserved c =
    let k = c.loop-k.k in
    let p = content_within c.problem.inside in
    let words = c.deref.result.now in
    let x = assignment words k in
    let below : k < 64 = omega (arith, c.loop-k-test.true, c.loop-k.auto.costs, c.requires.few) in
    let sum : get_or c.add_products.new.sums k (pos 0) ≡ sum_of x p.objective =
    c.add_products.ensures k below ∙ ap (sum_of x) c.iter.ensures in
    let value : to_z w128 (of_z w128 (to_z w128 (of_z w128 p.constant)
    +ℤ to_z w128 (of_z w128 (get_or c.add_products.new.sums k (pos 0)))))
    ≡ p.constant +ℤ sum_of x p.objective =
    omega (arith, ints, sum, cost_parts p x, c.problem.invariant.1) in
    let plain = subst IsPlain (sym c.problem.view_is) c.requires.plain in
    let same : words ≡ c.args.self.now = c.deref.ensures.value ∙ c.self.view_is in
    record {
      costs = filled_more (λ j. own_cost c.args.problem.now (assignment c.args.self.now j)) c.loop-k.costs Infinite _ k
          (search rules) (plain_cost p x _ plain value ∙ ap (λ ws. own_cost p (assignment ws k)) same
          ∙ ap (λ (q : ProblemContent). own_cost q (assignment c.args.self.now k)) c.problem.view_is)
          c.loop-k.invariant.costs;
    }
