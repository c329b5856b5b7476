use Rattle.entry_reader.proofs.Common.{nat_tests, ◌∷◌, length, ap, sym, ◌∙◌, arith, err_from_is_err_and, word_of, blank, with_variables, entries_at, problem_read}
use Rattle.entry_reader.proofs.Puttings.{read_into, entries_go_on, entries_fail, entries_end, problem_read-blank}
use Rattle.entry_reader.proofs.reading.entries.Goals as goal

pub returns-in_err-entry : goal.returns-in_err-entry
returns-in_err-entry c =
    grind (arith, nat_tests, problem_read-blank, err_from_is_err_and, entries_fail)

pub loop-first-preserved : goal.loop-first-preserved
loop-first-preserved c =
    let entry = c.in_ok-entry.entry in
    let all = read_into c.args.layout (with_variables blank c.args.counts.nodes)
    (entries_at c.args.end c.args.counts c.args.words.now) in
    let before = rw c.in-Some.ensures at c.loop-first.invariant.read in
    record {
      read = rw c.in_ok-add_entry.ensures.added
          (entries_go_on c.args.layout c.args.end c.loop-first.to_come c.in_ok-entry.fewer
          c.loop-first.problem (word_of c.in-Some.first ∷ c.next.new.self) c.entry.new.words entry
          all c.in_ok-entry.ensures.read before);
      variables = c.in_ok-add_entry.ensures.same ∙ c.loop-first.invariant.variables;
      nodes = c.in_ok-entry.ensures.listed.same ∙ c.loop-first.invariant.nodes;
      small =
          let e = c.in_ok-entry.ensures in
          let total = c.in_ok-add_entry.ensures.total in
          let long = ap length c.in-Some.ensures in
          omega (arith, e.listed.small, e.shorter, c.loop-first.invariant.small);
    }

pub returns-in_err-none_to_come : goal.returns-in_err-none_to_come
returns-in_err-none_to_come c =
    let all = problem_read-blank c.args.layout c.args.end c.args.counts c.args.words.now in
    let residual = c.from_residual-in_err-none_to_come in
    let p = err_from_is_err_and residual.result residual.ensures.1 in
    rw (p.1, p.2) (entries_end c.args.layout c.args.end c.loop-first.to_come c.loop-first.problem
    c.loop-first.words _ (problem_read c.args.layout c.args.end c.args.counts c.args.words.now)
    c.in_default.ensures.0 c.in_err-none_to_come.ensures (c.loop-first.invariant.read ∙ sym all))

pub returns : goal.returns
returns c =
    let all = problem_read-blank c.args.layout c.args.end c.args.counts c.args.words.now in
    entries_end c.args.layout c.args.end c.loop-first.to_come c.loop-first.problem
    c.loop-first.words _ (problem_read c.args.layout c.args.end c.args.counts c.args.words.now)
    c.in_default.ensures.0 c.in_ok-none_to_come.ensures (c.loop-first.invariant.read ∙ sym all)
