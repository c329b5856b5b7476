use Rattle.penalty_layer.proofs.Common.{rules, ◌≡◌, ◌*◌, ◌∙◌, ap, unsigned_abs, pos, ◌*ℤ◌, arith, to_z, of_z, w128, to_z-of_z, times_assoc}
use Rattle.penalty_layer.proofs.SquareSteps.{once_small, scaled_size}
use Rattle.penalty_layer.proofs.squares.squared.Goals as goal

pub scaled-requires-clause-small : goal.scaled-requires-clause-small
scaled-requires-clause-small c =
    omega (arith, c.requires.small, once_small c.args.factor (unsigned_abs c.args.a.now))

pub times-requires : goal.times-requires
times-requires c =
    let n = c.args.factor in
    let a = c.args.a.now in
    let product : to_z w128 (of_z w128 c.scaled.result) ≡ pos n *ℤ a =
    to_z-of_z w128 c.scaled.result (search rules) ∙ c.scaled.ensures in
    omega (arith, ap (λ z. unsigned_abs z * unsigned_abs a) product, ap (λ m. m * unsigned_abs a) (scaled_size n a))

pub returns : goal.returns
returns c =
    let n = c.args.factor in
    let a = c.args.a.now in
    let product : to_z w128 (of_z w128 c.scaled.result) ≡ pos n *ℤ a =
    to_z-of_z w128 c.scaled.result (search rules) ∙ c.scaled.ensures in
    to_z-of_z w128 c.times.result (search rules) ∙ c.times.ensures ∙ ap (λ z. z *ℤ a) product ∙ times_assoc (pos n) a a
