use Rattle.source_texts.proofs.Common.{sym, subst, ProblemContent, KeepsSoft}
use Rattle.source_texts.proofs.Slacked.{keeps_slacked}
use Rattle.source_texts.proofs.reading.Read.slacked.Goals as goal

pub returns-clause-kept : goal.returns-clause-kept
returns-clause-kept c kept =
    let Keeps : ProblemContent → Type 0 = λ p. KeepsSoft (record c.args.self { problem = p }) in
    subst Keeps (sym c.in_ok-problem.ensures) (keeps_slacked c.args.slack c.args.self kept)
