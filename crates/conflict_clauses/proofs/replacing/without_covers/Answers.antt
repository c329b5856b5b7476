use Rattle.conflict_clauses.proofs.Common.{sym, subst, ProblemContent, CostsAlike}
use Rattle.conflict_clauses.proofs.Replaced.{covers-alike}
use Rattle.conflict_clauses.proofs.replacing.without_covers.Goals as goal

pub returns-clause-alike : goal.returns-clause-alike
returns-clause-alike c =
    let Alike : ProblemContent → Type 0 = λ q. CostsAlike q c.args.problem in
    subst Alike (sym c.in_ok-replace.ensures) (covers-alike c.args.problem)
