use Rattle.monomial_layer.proofs.Sets.{IsLow-image}
use Rattle.monomial_layer.proofs.Sizes.{nodes-few}
use Rattle.monomial_layer.proofs.laws.laws_of_replacements.Goals as goal

pub returns : goal.returns
returns c = record { few = nodes-few; low = IsLow-image }
