use Rattle.local_penalties.proofs.Common.{◌≡◌, sym, subst, ProblemContent, PartPenalties, penalties_of}
use Rattle.std.proofs.lemmas.Result.{IfOk-weaker}
use Rattle.problem_form.proofs.Common.{content_within}
use Rattle.problem_form.specs.NormalForm.{with_penalties}
use Rattle.problem_form.specs.PartPenalties.{AreEnough}
use Rattle.local_penalties.specs.Kept.{IsWithinLimits}
use Rattle.local_penalties.proofs.Enough.{enough}
use Rattle.local_penalties.proofs.finding.local_penalties.Goals as goal

pub returns-clause-enough : goal.returns-clause-enough
returns-clause-enough c =
    let q : ProblemContent = content_within c.problem.inside in
    let by_rule : AreEnough (with_penalties q (penalties_of q)) =
    enough q c.problem.invariant (subst IsWithinLimits (sym c.problem.view_is) c.requires) in
    let here = subst (λ (p : ProblemContent). AreEnough (with_penalties p (penalties_of p))) c.problem.view_is by_rule in
    IfOk-weaker c.found_by.result (λ (found : PartPenalties). found ≡ penalties_of c.args.problem.now)
    (λ found. AreEnough (with_penalties c.args.problem.now found))
    (λ found is. subst (λ f. AreEnough (with_penalties c.args.problem.now f)) (sym is) here) c.found_by.ensures
