use Rattle.batch_costs.proofs.Common.{◌==◌, ◌∙◌, ap, sym, Bool, if◌then◌else◌, is_marked}
use Rattle.batch_costs.proofs.MarkedWords.{marked-clear, marked-set}
use Rattle.batch_costs.proofs.marks.with_bit.Goals as goal

pub returns-then-bit : goal.returns-then-bit
returns-then-bit c = λ k below.
    marked-set c.args.word c.args.place k c.requires below
    ∙ ap (λ (b : Bool). if k == c.args.place then b else is_marked c.args.word k) (sym c.if-bit.true)

pub returns-else-bit : goal.returns-else-bit
returns-else-bit c = λ k below.
    marked-clear c.args.word c.args.place k c.requires below
    ∙ ap (λ (b : Bool). if k == c.args.place then b else is_marked c.args.word k) (sym c.if-bit.false)
