use Rattle.source_texts.proofs.Prepared.{keeps_scope}
use Rattle.source_texts.proofs.reading.Read.penalize.Goals as goal

pub returns-clause-kept : goal.returns-clause-kept
returns-clause-kept c =
    keeps_scope c.penalize.result c.args.scope c.args.self.now c.penalize.new.problem
    c.penalize.ensures.value c.penalize.ensures.unchanged
