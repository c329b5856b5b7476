use Rattle.opb_reader.proofs.Lemmas.{◌≡◌, ◌∷◌, ◌++◌, [], List, refl, sym, ap, ◌∙◌, to_z, of_z, arith, rules, w128, to_z-of_z, flat_map_more, err_from_is_err_and, word_of, left, Product, widened, literals_in, is_operator, sum_at, put_all, push, put_none, term_goes_on, term_fails, sum_stops, sum_ends, widened-append}
use Rattle.opb_reader.proofs.Totals.{products_total-push}
use Rattle.opb_reader.proofs.sums.sum.Goals as goal

pub loop-next-init : goal.loop-next-init
loop-next-init c =
    let words = word_of c.args.first ∷ c.args.words.now in
    let read = sum_at c.args.limit is_operator c.args.end words in
    record {
      read = ap (λ (ts : List Product). put_all push ts read) c.requires.none ∙ put_none read;
      counted = rw c.requires.none refl;
      small = rw c.requires.none (omega arith);
      emptied = c.requires.emptied;
    }

pub returns-then-is_operator-clause-read : goal.returns-then-is_operator-clause-read
returns-then-is_operator-clause-read c =
    let w = word_of c.in-Some.word in
    let before = rw c.in-Some.is at c.loop-next.invariant.read in
    sym before
    ∙ sum_stops c.args.limit push c.loop-next.terms is_operator c.args.end w c.loop-next.words
    (sym c.is_operator.ensures ∙ c.if-is_operator.true)

pub returns-in_err-coefficient-clause-read : goal.returns-in_err-coefficient-clause-read
returns-in_err-coefficient-clause-read c =
    let w = word_of c.in-Some.word in
    let before = rw c.in-Some.is at c.loop-next.invariant.read in
    let p = err_from_is_err_and c.from_residual.result c.from_residual.ensures.1 in
    rw (p.1, p.2) (rw (← before)
    (term_fails c.args.limit c.in_err-coefficient.field-0.0 push c.loop-next.terms is_operator
    c.args.end w c.loop-next.words (sym c.is_operator.ensures ∙ c.if-is_operator.false)
    c.in_err-coefficient.ensures.read))

pub loop-next-preserved : goal.loop-next-preserved
loop-next-preserved c =
    let w = word_of c.in-Some.word in
    let before = rw c.in-Some.is at c.loop-next.invariant.read in
    let small = rw c.in-Some.is at c.loop-next.invariant.small in
    let rest = left c.in_ok-coefficient.after c.term.new.words in
    let t : Product = record {
      literals = c.term.new.list.items;
      coefficient = c.in_ok-coefficient.coefficient;
    } in
    let terms = c.loop-next.terms in
    let z = c.in_ok-coefficient.coefficient in
    let whole : to_z w128 (of_z w128 z) ≡ z = to_z-of_z w128 z (search rules) in
    let pushed : c.push.new.self ≡ terms ++ t ∷ [] =
    c.in_ok-push.ensures.pushed
    ∙ (λ i. terms ++ record { literals = c.deref.ensures.value i; coefficient = whole i } ∷ []) in
    let shorter = c.in_ok-coefficient.ensures.shorter in
    record {
      read = rw pushed
          (sym (term_goes_on c.args.limit push terms is_operator c.args.end w c.loop-next.words
          rest t (sym c.is_operator.ensures ∙ c.if-is_operator.false) (omega (arith, shorter))
          c.in_ok-coefficient.ensures.read) ∙ before);
      counted = rw pushed (c.in_ok-coefficient.ensures.counted
          ∙ ap (λ v. widened v t.literals) c.loop-next.invariant.counted
          ∙ sym (widened-append c.args.variables.now (literals_in terms) t.literals)
          ∙ ap (widened c.args.variables.now)
          (flat_map_more (λ (u : Product). u.literals) [] terms t));
      small = rw pushed
          (let products = products_total-push terms t in
          omega (arith, c.in_ok-coefficient.ensures.small, shorter, small));
      emptied = c.clear.ensures.items;
    }

pub returns-clause-read : goal.returns-clause-read
returns-clause-read c =
    let before = rw c.in_default.is at c.loop-next.invariant.read in
    sym before ∙ sum_ends c.args.limit push c.loop-next.terms is_operator c.args.end
