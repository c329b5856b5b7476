use Rattle.wcnf_reader.proofs.Common.{◌≡◌, ◌+◌, max, get_or, false, sym, ap, ◌∙◌, arith, le-max_left, le-max_right, Literal}
use Rattle.wcnf_reader.proofs.Widening.{widened_more, all_within}
use Rattle.wcnf_reader.proofs.listed.widened.Goals as goal

pub loop-literal-preserved : goal.loop-literal-preserved
loop-literal-preserved c =
    let ls = c.args.literals.now in
    let i = c.loop-literal.literal-index in
    let d : Literal = record { variable = 0; negated = false } in
    let needed = (get_or ls i d).variable + 1 in
    let greater : c.max-widened.result ≡ max c.loop-literal.widened needed = omega arith in
    record {
      least = greater ∙ ap (λ n. max n needed) c.loop-literal.invariant.least
          ∙ sym (widened_more c.args.variables ls i d c.loop-literal-test.true);
      wider = omega (arith, greater, c.loop-literal.invariant.wider, le-max_left c.loop-literal.widened needed);
      within = rw greater
          (all_within c.loop-literal.widened (max c.loop-literal.widened needed) ls i d
          c.loop-literal-test.true (le-max_left c.loop-literal.widened needed)
          (omega (arith, le-max_right c.loop-literal.widened needed)) c.loop-literal.invariant.within);
    }
