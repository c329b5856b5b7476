use Rattle.opb_reader.proofs.Lemmas.{get_or-le-sum_by, size, ◌≡◌, sym, ap, subst, ◌∙◌, to_z, of_z, arith, rules, w128, to_z-of_z, err_from_is_err_and, word_of, left, ProblemContent, with_variables, with_constraint, with_constraint-total, Listed, literals_in, widened, compared, with_listed, sum_fails, comparison_fails, constraint_is, compared_within, compared-total, AreWithin, widened-le, terms_within}
use Rattle.opb_reader.proofs.reading.constraint.Goals as goal

pub returns-in_err-next-clause-read : goal.returns-in_err-next-clause-read
returns-in_err-next-clause-read c =
    let p = err_from_is_err_and c.from_residual.result c.from_residual.ensures.1 in
    rw (p.1, p.2)
    (sum_fails c.in_err-next.field-0.0 c.args.problem.now c.args.end (word_of c.args.first)
    c.args.words.now c.in_err-next.ensures.read)

pub returns-in_err-operator-clause-read : goal.returns-in_err-operator-clause-read
returns-in_err-operator-clause-read c =
    let residual = c.from_residual-in_err-operator in
    let p = err_from_is_err_and residual.result residual.ensures.1 in
    rw (p.1, p.2)
    (comparison_fails c.in_err-operator.field-0.0 c.args.problem.now c.args.end (word_of c.args.first)
    c.args.words.now (left c.in_ok-next.next c.sum.new.words) c.sum.new.terms
    c.in_ok-next.ensures.read c.in_err-operator.ensures.read)

pub widen-requires : goal.widen-requires
widen-requires c =
    let same : c.problem.inside.variables ≡ c.args.problem.now.variables =
    ap (λ (q : ProblemContent). q.variables) c.problem.view_is in
    let more = widened-le c.problem.inside.variables (literals_in c.sum.new.terms) in
    omega (arith, same, c.in_ok-next.ensures.counted)

pub add_constraint-requires-clause-within : goal.add_constraint-requires-clause-within
add_constraint-requires-clause-within c =
    let ts = c.sum.new.terms in
    let v = c.problem.inside.variables in
    let z = c.in_ok-operator.bound in
    let whole : to_z w128 (of_z w128 z) ≡ z = to_z-of_z w128 z (search rules) in
    let within = subst (λ n. AreWithin n ts) (sym c.in_ok-next.ensures.counted) (terms_within v ts) in
    rw (c.compare.ensures, whole, c.widen.ensures)
    (compared_within c.in_ok-operator.operator c.sum.new.variables ts z within)

pub returns-clause-read : goal.returns-clause-read
returns-clause-read c =
    let p = c.args.problem.now in
    let ts = c.sum.new.terms in
    let operator = c.in_ok-operator.operator in
    let z = c.in_ok-operator.bound in
    let whole : to_z w128 (of_z w128 z) ≡ z = to_z-of_z w128 z (search rules) in
    let before_it : c.problem.inside.variables ≡ p.variables =
    ap (λ (q : ProblemContent). q.variables) c.problem.view_is in
    let least : c.sum.new.variables ≡ widened p.variables (literals_in ts) =
    c.in_ok-next.ensures.counted ∙ ap (λ v. widened v (literals_in ts)) before_it in
    let written : c.compare.new.constraint ≡ compared operator ts z =
    c.compare.ensures ∙ ap (compared operator ts) whole in
    let listed : Listed = record { terms = ts; operator = operator; bound = z } in
    let state : c.add_constraint.new.self ≡ with_listed p listed =
    c.in_ok-add_constraint.ensures.added ∙ (λ i. with_constraint (c.widen.ensures i) (written i))
    ∙ ap (λ v. with_constraint (with_variables p v) (compared operator ts z)) least in
    rw state (constraint_is p c.args.end (word_of c.args.first) c.args.words.now
    (left c.in_ok-next.next c.sum.new.words) c.comparison.new.words ts operator z
    c.in_ok-next.ensures.read c.in_ok-operator.ensures.read)

pub returns-clause-small : goal.returns-clause-small
returns-clause-small c =
    let p = c.args.problem.now in
    let ts = c.sum.new.terms in
    let operator = c.in_ok-operator.operator in
    let z = c.in_ok-operator.bound in
    let whole : to_z w128 (of_z w128 z) ≡ z = to_z-of_z w128 z (search rules) in
    let k = compared operator ts z in
    let written : c.compare.new.constraint ≡ k = c.compare.ensures ∙ ap (compared operator ts) whole in
    let state : c.add_constraint.new.self ≡ with_constraint (with_variables p c.sum.new.variables) k =
    c.in_ok-add_constraint.ensures.added ∙ (λ i. with_constraint (c.widen.ensures i) (written i)) in
    let o = c.in_ok-operator.ensures in
    let small = c.in_ok-next.ensures.small in
    rw state (omega (arith, with_constraint-total, compared-total, o.small, o.shorter))

pub add_constraint-requires-clause-small : goal.add_constraint-requires-clause-small
add_constraint-requires-clause-small c =
    let o = c.in_ok-operator.ensures in
    let whole = to_z-of_z w128 c.in_ok-operator.bound (search rules) in
    rw (c.widen.ensures, c.compare.ensures, whole)
    (omega (arith, compared-total, o.small, o.shorter, c.in_ok-next.ensures.small, c.requires.small))

pub compare-requires-clause-bound : goal.compare-requires-clause-bound
compare-requires-clause-bound c =
    rw (to_z-of_z w128 c.in_ok-operator.bound (search rules)) c.in_ok-operator.ensures.small

pub compare-requires-clause-terms : goal.compare-requires-clause-terms
compare-requires-clause-terms c = λ k d within.
    omega (arith, get_or-le-sum_by size c.sum.new.terms k d within, c.in_ok-next.ensures.small, c.requires.small)
