use Rattle.wcnf_reader.proofs.Common.{nat_tests, ◌≡◌, ◌∙◌, ap, length, arith, err_from_is_err_and, word_of, Clause, ProblemContent, blank, with_variables, with_clause, with_clause-total, clauses_to_end, widened}
use Rattle.wcnf_reader.proofs.Headerless.{read_into, widened_with, clause_goes_on, clause_fails, clauses_end, headerless_read-blank}
use Rattle.wcnf_reader.proofs.reading.headerless.Goals as goal

pub returns-in_err-weight : goal.returns-in_err-weight
returns-in_err-weight c =
    grind (arith, nat_tests, headerless_read-blank, err_from_is_err_and, clause_fails)

pub loop-first-preserved : goal.loop-first-preserved
loop-first-preserved c =
    let end = c.args.end in
    let clause : Clause = record {
      literals = c.clause.new.list.items;
      weight = c.in_ok-weight.weight;
    } in
    let all = read_into blank (clauses_to_end end c.args.words) in
    let before = rw c.in-Some.ensures at c.loop-first.invariant.read in
    let p = c.loop-first.problem in
    let before_it : c.problem.inside.variables ≡ p.variables =
    ap (λ (q : ProblemContent). q.variables) c.problem.view_is in
    let least : c.widened-variables.result ≡ widened p.variables clause.literals =
    c.widened-variables.ensures.least ∙ (λ i. widened (before_it i) (c.deref.ensures.value i)) in
    let state : c.add_literals.new.self ≡ widened_with p clause =
    c.in_ok-add_literals.ensures.added ∙ ap (λ (q : ProblemContent). with_clause q clause)
    (c.widen.ensures ∙ ap (with_variables p) least) in
    record {
      read = rw state
          (clause_goes_on end p c.next.new.self c.clause.new.words (word_of c.in-Some.first) clause
          all c.in_ok-weight.ensures.read c.in_ok-weight.ensures.shorter before);
      small =
          let w = c.in_ok-weight.ensures in
          let long = ap length c.in-Some.ensures in
          let small = c.loop-first.invariant.small in
          rw state (omega (arith, with_clause-total, w.small, w.shorter));
      emptied = c.in_ok-add_literals.ensures.emptied;
    }

pub returns : goal.returns
returns c = grind (arith, nat_tests, headerless_read-blank, clauses_end)
