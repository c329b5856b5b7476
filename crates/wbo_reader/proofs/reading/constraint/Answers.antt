use Rattle.wbo_reader.proofs.Lemmas.{◌≡◌, ap, ◌∙◌, to_z, of_z, arith, rules, w128, to_z-of_z, err_from_is_err_and, constraint_total, literals_in, widened, compared, compared-total, WboContent, with_weighed, with_constraint-total, front_fails, sum_fails, comparison_fails, weighed, weighed_is, added_is}
use Rattle.wbo_reader.proofs.reading.constraint.Goals.{In_ok-add}
use Rattle.wbo_reader.proofs.reading.constraint.Goals as goal

pub returns-in_err-weight-clause-read : goal.returns-in_err-weight-clause-read
returns-in_err-weight-clause-read c =
    let p = err_from_is_err_and c.from_residual.result c.from_residual.ensures.1 in
    rw (p.1, p.2) (front_fails _ _ _ _ _ c.in_err-weight.ensures.read)

pub returns-in_err-next-clause-read : goal.returns-in_err-next-clause-read
returns-in_err-next-clause-read c =
    let residual = c.from_residual-in_err-next in
    let p = err_from_is_err_and residual.result residual.ensures.1 in
    rw (p.1, p.2) (sum_fails _ _ _ _ _ _ _ _ c.in_ok-weight.ensures.read c.in_err-next.ensures.read)

pub returns-in_err-operator-clause-read : goal.returns-in_err-operator-clause-read
returns-in_err-operator-clause-read c =
    let residual = c.from_residual-in_err-operator in
    let p = err_from_is_err_and residual.result residual.ensures.1 in
    rw (p.1, p.2)
    (comparison_fails _ _ _ _ _ _ _ _ _ _ c.in_ok-weight.ensures.read c.in_ok-next.ensures.read
    c.in_err-operator.ensures.read)

pub add-requires : goal.add-requires
add-requires c =
    let z = c.in_ok-operator.bound in
    let whole : to_z w128 (of_z w128 z) ≡ z = to_z-of_z w128 z (search rules) in
    let written : c.compare.new.constraint ≡ compared c.in_ok-operator.operator c.sum.new.terms z =
    c.compare.ensures ∙ ap (compared c.in_ok-operator.operator c.sum.new.terms) whole in
    let total = ap constraint_total written in
    let front = c.in_ok-weight.ensures.small in
    let sum = c.in_ok-next.ensures.small in
    omega (arith, compared-total, c.requires.small, c.in_ok-operator.ensures.small)

-- the source with the constraint that was read
state : (c : In_ok-add)
    → c.add.new.self ≡ with_weighed c.args.gathered.now (weighed c.in_ok-weight.weight
    c.sum.new.terms c.in_ok-operator.operator c.in_ok-operator.bound)
state c =
    let ts = c.sum.new.terms in
    let operator = c.in_ok-operator.operator in
    let z = c.in_ok-operator.bound in
    let whole = to_z-of_z w128 z (search rules) in
    added_is _ _ _ _ _ _ _ _ _ ts operator z _ c.gathered.view_is c.in_ok-next.ensures.counted
    (c.compare.ensures ∙ ap (compared operator ts) whole) c.in_ok-add.ensures

pub returns-clause-read : goal.returns-clause-read
returns-clause-read c =
    rw (state (goal.at.returns-clause-read c).In_ok-add)
    (weighed_is _ _ _ _ _ _ _ _ _ _ _ _ c.in_ok-weight.ensures.read c.in_ok-next.ensures.read
    c.in_ok-operator.ensures.read)

pub returns-clause-small : goal.returns-clause-small
returns-clause-small c =
    let s = c.args.gathered.now in
    let ts = c.sum.new.terms in
    let z = c.in_ok-operator.bound in
    let wide : WboContent = record s { variables = widened s.variables (literals_in ts) } in
    rw (state (goal.at.returns-clause-small c).In_ok-add) (omega (
      arith,
      with_constraint-total wide c.in_ok-weight.weight (compared c.in_ok-operator.operator ts z),
      compared-total c.in_ok-operator.operator ts z,
      c.in_ok-weight.ensures.small,
      c.in_ok-next.ensures.small,
      c.in_ok-operator.ensures.small,
      c.in_ok-operator.ensures.shorter,
    ))
