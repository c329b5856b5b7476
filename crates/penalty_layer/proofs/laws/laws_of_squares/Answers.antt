use Rattle.penalty_layer.proofs.Common.{Bool, List, [], subst, append-nil, value_bits, HasBits, HasBits-front, slack_reaches, slack_value-le, constraint-cost}
use Rattle.penalty_layer.proofs.WholeSquares.{squares_are_products}
use Rattle.penalty_layer.proofs.laws.laws_of_squares.Goals as goal

pub returns : goal.returns
returns c = record {
  reach = λ r v within.
      let bits = value_bits r v in
      slack_reaches bits 0 r v within
      (subst (λ (y : List Bool). HasBits y 0 bits) (append-nil bits) (HasBits-front bits []));
  stay = slack_value-le;
  cost = constraint-cost;
  products = squares_are_products;
}
