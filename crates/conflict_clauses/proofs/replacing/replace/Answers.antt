use Rattle.conflict_clauses.proofs.Common.{◌≡◌, ◌∙◌, ap, sym, length, with_marked, ProblemContent, staying}
use Rattle.conflict_clauses.proofs.Replaced.{length-staying, marked-without}
use Rattle.conflict_clauses.proofs.replacing.replace.Goals as goal

pub keep_constraints-requires : goal.keep_constraints-requires
keep_constraints-requires c =
    ap length (c.deref.ensures.value ∙ c.in_ok-replace_each.ensures.kept)
    ∙ length-staying c.args.covers 0 c.args.problem.now.constraints
    ∙ ap (λ (q : ProblemContent). length q.constraints) (sym c.in_ok-replace_each.ensures.clauses)

pub returns : goal.returns
returns c =
    let marks : c.deref.result.now ≡ staying c.args.covers 0 c.args.problem.now.constraints =
    c.deref.ensures.value ∙ c.in_ok-replace_each.ensures.kept in
    c.keep_constraints.ensures
    ∙ (λ i. with_marked (c.in_ok-replace_each.ensures.clauses i) (marks i))
    ∙ marked-without c.args.covers c.args.problem.now
