use Rattle.opb_reader.proofs.Lemmas.{sym, ap, ◌∙◌, length, arith, err_from_is_err_and, word_of, constraints_read, constraint_goes_on, constraint_fails, constraints_end}
use Rattle.opb_reader.proofs.reading.constraints.Goals as goal

pub loop-first-preserved : goal.loop-first-preserved
loop-first-preserved c =
    let w = word_of c.in-Some.first in
    let before = rw c.in-Some.ensures at c.loop-first.invariant.read in
    record {
      read = sym (constraint_goes_on c.loop-first.problem c.constraint.new.problem c.args.end w
          c.next.new.self c.constraint.new.words c.in_ok-constraint.ensures.shorter
          c.in_ok-constraint.ensures.read) ∙ before;
      small =
          let long = ap length c.in-Some.ensures in
          omega (arith, c.in_ok-constraint.ensures.small, c.loop-first.invariant.small);
      emptied = c.in_ok-constraint.ensures.emptied;
    }

pub returns-in_err-constraint : goal.returns-in_err-constraint
returns-in_err-constraint c =
    let w = word_of c.in-Some.first in
    let e = c.in_err-constraint.field-0.0 in
    let before = rw c.in-Some.ensures at c.loop-first.invariant.read in
    let failed = constraint_fails e c.loop-first.problem c.args.end w c.next.new.self
    c.in_err-constraint.ensures.read in
    let p = err_from_is_err_and c.from_residual.result c.from_residual.ensures.1 in
    rw (p.1, p.2) (rw before at failed)

pub returns : goal.returns
returns c =
    let p = c.loop-first.problem in
    sym c.loop-first.invariant.read ∙ ap (constraints_read p c.args.end) c.in_default.ensures.0
    ∙ constraints_end p c.args.end
