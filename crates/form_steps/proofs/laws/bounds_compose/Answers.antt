use Rattle.form_steps.proofs.Common.{relaxes_at_least, relaxes_stays_above, keeps_stays_above, reduces_stays_above}
use Rattle.form_steps.proofs.Alike.{stays_above_alike}
use Rattle.form_steps.proofs.laws.bounds_compose.Goals as goal

pub returns : goal.returns
returns c = record {
  at_least = λ f g d u n p. (relaxes_at_least p, relaxes_stays_above p);
  kept = λ f g h d e n a b p q. keeps_stays_above p q;
  reduced = λ f g h d n u b p q. reduces_stays_above p q;
  alike = stays_above_alike;
}
