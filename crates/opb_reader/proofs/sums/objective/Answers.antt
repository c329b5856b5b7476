use Rattle.opb_reader.proofs.Lemmas.{◌≡◌, true, sym, ap, ◌∙◌, to_z, of_z, arith, rules, w128, to_z-of_z, err_from_is_err_and, word_of, left, Product, ProblemContent, with_variables, with_product, with_product-total, greatest_index, widened, is_semicolon, with_term, term_goes_on, term_fails, sum_stops, sum_ends, objective_closed, objective_open, objective_fails, widened-le, widened_within}
use Rattle.opb_reader.proofs.sums.objective.Goals as goal

pub returns-then-is_semicolon-clause-read : goal.returns-then-is_semicolon-clause-read
returns-then-is_semicolon-clause-read c =
    let w = word_of c.in-Some.word in
    let p = c.loop-next.problem in
    let before = rw c.in-Some.is at c.loop-next.invariant.read in
    let semicolon : is_semicolon w.bytes ≡ true =
    sym c.is_semicolon.ensures ∙ c.if-is_semicolon.true in
    objective_closed c.args.problem.now p c.args.end c.args.words.now c.loop-next.words w semicolon
    (sym before ∙ sum_stops greatest_index with_term p is_semicolon c.args.end w c.loop-next.words
    semicolon)

pub returns-in_err-coefficient-clause-read : goal.returns-in_err-coefficient-clause-read
returns-in_err-coefficient-clause-read c =
    let w = word_of c.in-Some.word in
    let p = c.loop-next.problem in
    let e = c.in_err-coefficient.field-0.0 in
    let before = rw c.in-Some.is at c.loop-next.invariant.read in
    let failed = term_fails greatest_index e with_term p is_semicolon c.args.end w c.loop-next.words
    (sym c.is_semicolon.ensures ∙ c.if-is_semicolon.false) c.in_err-coefficient.ensures.read in
    let r = err_from_is_err_and c.from_residual.result c.from_residual.ensures.1 in
    rw (r.1, r.2)
    (objective_fails e c.args.problem.now c.args.end c.args.words.now (rw before at failed))

pub widen-requires : goal.widen-requires
widen-requires c =
    let same : c.problem.inside.variables ≡ c.loop-next.problem.variables =
    ap (λ (q : ProblemContent). q.variables) c.problem.view_is in
    let more = widened-le c.problem.inside.variables c.term.new.list.items in
    omega (arith, same, c.in_ok-coefficient.ensures.counted)

pub add_term-requires-clause-within : goal.add_term-requires-clause-within
add_term-requires-clause-within c =
    rw (c.widen.ensures, c.in_ok-coefficient.ensures.counted)
    (widened_within c.problem.inside.variables c.term.new.list.items)

pub loop-next-preserved : goal.loop-next-preserved
loop-next-preserved c =
    let w = word_of c.in-Some.word in
    let p = c.loop-next.problem in
    let before = rw c.in-Some.is at c.loop-next.invariant.read in
    let small = rw c.in-Some.is at c.loop-next.invariant.small in
    let rest = left c.in_ok-coefficient.after c.term.new.words in
    let t : Product = record {
      literals = c.term.new.list.items;
      coefficient = c.in_ok-coefficient.coefficient;
    } in
    let z = c.in_ok-coefficient.coefficient in
    let whole : to_z w128 (of_z w128 z) ≡ z = to_z-of_z w128 z (search rules) in
    let before_it : c.problem.inside.variables ≡ p.variables =
    ap (λ (q : ProblemContent). q.variables) c.problem.view_is in
    let least : c.term.new.variables ≡ widened p.variables t.literals =
    c.in_ok-coefficient.ensures.counted ∙ ap (λ v. widened v t.literals) before_it in
    let state : c.add_term.new.self ≡ with_term p t =
    c.in_ok-add_term.ensures.added ∙ (λ i. with_product (c.widen.ensures i)
    (record { literals = t.literals; coefficient = whole i }))
    ∙ ap (λ v. with_product (with_variables p v) t) least in
    let shorter = c.in_ok-coefficient.ensures.shorter in
    record {
      read = rw state
          (sym (term_goes_on greatest_index with_term p is_semicolon c.args.end w c.loop-next.words
          rest t (sym c.is_semicolon.ensures ∙ c.if-is_semicolon.false) (omega (arith, shorter))
          c.in_ok-coefficient.ensures.read) ∙ before);
      small = rw state
          (let with = with_product-total (with_variables p (widened p.variables t.literals)) t in
          omega (arith, c.in_ok-coefficient.ensures.small, shorter, small));
      emptied = c.in_ok-add_term.ensures.emptied;
    }

pub returns-clause-read : goal.returns-clause-read
returns-clause-read c =
    let p = c.loop-next.problem in
    let before = rw c.in_default.is at c.loop-next.invariant.read in
    rw c.fault.ensures (objective_open c.args.problem.now p c.args.end c.args.words.now
    (sym before ∙ sum_ends greatest_index with_term p is_semicolon c.args.end))
