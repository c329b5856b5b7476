use Rattle.conflict_clauses.proofs.Common.{sym, subst, ProblemContent, CostsAlike}
use Rattle.conflict_clauses.proofs.Replaced.{without-alike}
use Rattle.conflict_clauses.proofs.replacing.without_conflicts.Goals as goal

pub returns-clause-alike : goal.returns-clause-alike
returns-clause-alike c =
    let Alike : ProblemContent → Type 0 = λ q. CostsAlike q c.args.problem in
    subst Alike (sym c.in_ok-replace.ensures) (without-alike c.args.problem)
