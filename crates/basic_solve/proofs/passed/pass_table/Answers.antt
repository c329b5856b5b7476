use Rattle.basic_solve.proofs.Common.{◌++◌, ◌∷◌, [], ◌∙◌, arith, ap, length, map, set, get_or, on_ok_weaker}
use Rattle.basic_solve.proofs.Passing.{last_at}
use Rattle.basic_solve.proofs.passed.pass_table.Goals as goal

pub returns-in_ok-values-in-len1-up : goal.returns-in_ok-values-in-len1-up
returns-in_ok-values-in-len1-up g c =
    let lists = c.args.waiting.now in
    on_ok_weaker c.push.result
    (λ pushed. record {
      none = λ e. absurd (omega (arith, c.in-len1-up.len_at_least, ap length e));
      last = λ rest q parts.
          pushed ∙ (λ i. set lists (last_at c.args.nodes.now rest q 0 parts i)
          (get_or lists (last_at c.args.nodes.now rest q 0 parts i) []
          ++ record { nodes = c.args.nodes.now; values = map g.T.Number.value (c.in_ok-values-in-len1-up.ensures i) } ∷ []));
    }) c.push.ensures
