use Rattle.conflict_clauses.proofs.Common.{◌≡◌, ◌+◌, ◌++◌, ◌∙◌, ap, sym, arith, drop, length, Some, slice_get, ProblemContent, spent_after, staying, with_clauses_from, with_clauses_of}
use Rattle.conflict_clauses.proofs.Replaced.{clauses_from-step, kept-step, place}
use Rattle.conflict_clauses.proofs.replacing.replace_each.Goals as goal

pub loop-i-preserved : goal.loop-i-preserved
loop-i-preserved c =
    let i = c.loop-i.i in
    let p = c.loop-i.problem in
    let spent = c.loop-i.spent in
    let v = c.args.covers in
    let h = c.loop-i.invariant in
    let count = ap (λ (q : ProblemContent). length q.constraints) c.problem.view_is in
    let here = place _ i (omega (arith, c.loop-i-test.true, c.len-i-end.ensures, count)) in
    let k = here.element in
    let rest = drop (i + 1) _ in
    let at : slice_get p.constraints i ≡ Some k = (λ j. slice_get (h.constraints j) i) ∙ here.at in
    let problem : c.replace_at.new.problem ≡ with_clauses_of v p spent k = c.in_ok-stays.ensures.clauses k at in
    let after : c.replace_at.new.spent ≡ spent_after spent k = c.in_ok-stays.ensures.spent k at in
    record {
      clauses = (λ j. with_clauses_from v (problem j) (after j) rest)
          ∙ clauses_from-step v p spent k rest ∙ (λ j. with_clauses_from v p spent (sym here.left j))
          ∙ h.clauses;
      constraints = ap (λ (q : ProblemContent). q.constraints) problem ∙ h.constraints;
      kept = (λ j. c.push.new.self.items ++ staying v (after j) rest)
          ∙ kept-step v c.loop-i.kept.items c.push.new.self.items c.in_ok-stays.stays spent k rest
          c.in_ok-push.ensures.items (c.in_ok-stays.ensures.stays k at)
          ∙ (λ j. c.loop-i.kept.items ++ staying v spent (sym here.left j)) ∙ h.kept;
      spent = c.replace_at.ensures.bounded;
    }
