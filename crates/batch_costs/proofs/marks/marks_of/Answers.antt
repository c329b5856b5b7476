use Rattle.batch_costs.proofs.Common.{rules}
use Rattle.batch_costs.proofs.MarkedWords.{literal-marked}
use Rattle.batch_costs.proofs.marks.marks_of.Goals as goal

pub returns-then-literal : goal.returns-then-literal
returns-then-literal c = λ k below.
    literal-marked c.args.words.now c.args.literal k _ c.if-literal.true c.word_of-word.ensures (search rules) below
