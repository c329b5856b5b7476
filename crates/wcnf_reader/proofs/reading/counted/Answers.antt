use Rattle.wcnf_reader.proofs.Common.{sym, ◌∙◌, arith, err_from_is_err_and, word_of, Clause, blank, with_variables, with_clause-total, clauses_at, header_of, problem_read, next_less}
use Rattle.wcnf_reader.proofs.Clauses.{read_into, clause_goes_on, clause_fails, no_clause, clauses_done, problem_read-blank}
use Rattle.wcnf_reader.proofs.reading.counted.Goals as goal

pub returns-in_err-first : goal.returns-in_err-first
returns-in_err-first c =
    let h = header_of c.args.start in
    let end = c.args.end in
    let all = problem_read-blank h end c.args.words.now in
    let p = err_from_is_err_and c.from_residual.result c.from_residual.ensures.1 in
    rw (p.1, p.2)
    (no_clause h h.clauses c.loop.counter end c.loop.problem c.loop.words c.in_err-first.field-0.0
    (problem_read h end c.args.words.now) c.loop-test.true c.in_err-first.ensures
    (c.loop.invariant.read ∙ sym all))

pub returns-in_err-weight : goal.returns-in_err-weight
returns-in_err-weight c =
    let h = header_of c.args.start in
    let end = c.args.end in
    let all = problem_read-blank h end c.args.words.now in
    let residual = c.from_residual-in_err-weight in
    let p = err_from_is_err_and residual.result residual.ensures.1 in
    rw (p.1, p.2)
    (clause_fails c.in_err-weight.field-0.0 h h.clauses c.loop.counter end c.loop.problem
    c.loop.words c.next_word.new.words (word_of c.in_ok-first.first)
    (problem_read h end c.args.words.now) c.loop-test.true c.in_ok-first.ensures
    c.in_err-weight.ensures.read (c.loop.invariant.read ∙ sym all))

pub loop-preserved : goal.loop-preserved
loop-preserved c =
    let h = header_of c.args.start in
    let end = c.args.end in
    let clause : Clause = record { literals = c.clause.new.list.items; weight = c.in_ok-weight.weight } in
    let all = read_into h.top (with_variables blank h.variables)
    (clauses_at h.clauses h end c.args.words.now) in
    let added = c.in_ok-add_literals.ensures.added in
    let less = next_less end c.loop.words c.next_word.new.words (word_of c.in_ok-first.first)
    c.in_ok-first.ensures in
    record {
      read = rw added (clause_goes_on h h.clauses c.loop.counter end c.loop.problem c.loop.words
          c.next_word.new.words c.clause.new.words (word_of c.in_ok-first.first) clause all
          c.loop-test.true c.in_ok-first.ensures c.in_ok-weight.ensures.read c.loop.invariant.read);
      variables = rw added c.loop.invariant.variables;
      small =
          let w = c.in_ok-weight.ensures in
          let small = c.loop.invariant.small in
          rw added (omega (arith, with_clause-total, less, w.small, w.shorter));
      emptied = c.in_ok-add_literals.ensures.emptied;
    }

pub returns : goal.returns
returns c =
    let h = header_of c.args.start in
    let all = problem_read-blank h c.args.end c.args.words.now in
    clauses_done h h.clauses c.loop.counter c.args.end c.loop.problem c.loop.words
    (problem_read h c.args.end c.args.words.now) c.loop-test.false (c.loop.invariant.read ∙ sym all)
