use Rattle.wbo_reader.proofs.Lemmas.{rules, ◌≡◌, false, arith, ap, ◌∙◌, list_any, ints, fails, WboContent, paid, reaches_top, wbo_cost, paid-le, cost_whole}
use Rattle.wbo_reader.proofs.costs.WboCosted.cost.Goals as goal

pub overflow_cast-result : goal.overflow_cast-result
overflow_cast-result c =
    let sum : c.paid-sum.result ≡ paid c.args.x.now c.self.inside.soft = search rules in
    omega (arith, ints, sum, paid-le c.args.x.now c.self.inside.soft, c.self.invariant.small)

pub returns : goal.returns
returns c =
    let x = c.args.x.now in
    let i = c.self.inside in
    let s : WboContent = record {
      variables = i.variables;
      hard = i.hard;
      soft = i.soft;
      top = i.top;
      order = i.order;
    } in
    let sum : c.paid-sum.result ≡ paid x i.soft = search rules in
    let hard : list_any (fails x) i.hard ≡ false = search rules in
    let less : reaches_top i.top c.paid-sum.result ≡ false = search rules in
    cost_whole s x c.paid-sum.result _ sum hard less
    (omega (arith, ints, sum, paid-le x i.soft, c.self.invariant.small))
    ∙ ap (λ (t : WboContent). wbo_cost t x) c.self.view_is
