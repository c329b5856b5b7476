use Rattle.form_steps.proofs.Common.{keeps_after_by, keeps_after_keeps, reduces_after_by}
use Rattle.form_steps.proofs.Alike.{by_alike}
use Rattle.form_steps.proofs.laws.relations_compose.Goals as goal

pub returns : goal.returns
returns c = record {
  relaxed = keeps_after_by;
  kept = λ f g h d e a1 b1 a2 b2 p q. keeps_after_keeps p q;
  reduced = reduces_after_by;
  alike = by_alike;
}
