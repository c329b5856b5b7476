use Rattle.conflict_clauses.proofs.Common.{ap, arith, length, ProblemContent}
use Rattle.conflict_clauses.proofs.Replaced.{place}
use Rattle.conflict_clauses.proofs.replacing.replace_at.Goals as goal

pub replace_cover-requires : goal.replace_cover-requires
replace_cover-requires c =
    let here = place c.args.problem.now.constraints c.args.i c.requires.within in
    let same = ap (λ (q : ProblemContent). length q.constraints)
    (c.in_ok-stays.ensures.clauses here.element here.at) in
    omega (arith, same, c.requires.within)
