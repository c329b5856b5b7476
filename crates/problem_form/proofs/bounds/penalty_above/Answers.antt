use Rattle.problem_form.proofs.Lemmas.{arith, ap, ◌∙◌, ◌≡◌, ◌-ℤ◌, ◌+ℤ◌, pos, max, to_z, of_z, w128, int_max, ints, positive_part, positive_part-raised}
use Rattle.problem_form.proofs.bounds.penalty_above.Goals as goal

pub returns : goal.returns
returns c =
    let z = c.args.most -ℤ c.args.least +ℤ pos 1 in
    let lift : to_z w128 (of_z w128 (to_z w128 (of_z w128 (to_z w128 (of_z w128 c.args.most)
    -ℤ to_z w128 (of_z w128 c.args.least))) +ℤ pos 1)) ≡ z =
    omega (arith, ints) in
    let raised : c.max-lift.result ≡ pos (max 1 (positive_part z)) =
    c.max-lift.ensures.value ∙ ap (λ w. int_max w (pos 1)) lift ∙ positive_part-raised z in
    omega (arith, ints, c.min.ensures, raised)
