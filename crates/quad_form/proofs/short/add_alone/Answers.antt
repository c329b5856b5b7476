use Rattle.quad_form.proofs.Common.{rules, ◌≡◌, ◌≤◌, ◌∙◌, ap, arith, to_z, of_z, unsigned_abs, w128, to_z-of_z, signed}
use Rattle.quad_form.proofs.HeldSums.{gain-one}
use Rattle.quad_form.proofs.ShortTerms.{size-signed}
use Rattle.quad_form.proofs.short.add_alone.Goals as goal

pub returns : goal.returns
returns c =
    let l = c.args.literal in
    let weight = c.args.coefficient in
    let share : to_z w128 (of_z w128 c.signed.result) ≡ signed l weight =
    to_z-of_z w128 c.signed.result (search rules) ∙ c.signed.ensures
    ∙ ap (signed l) (to_z-of_z w128 weight (search rules)) in
    let size : unsigned_abs (signed l weight) ≤ unsigned_abs weight = omega (arith, size-signed l weight) in
    gain-one c.args.weights.now c.add_weight.new.weights l.variable (unsigned_abs weight) (signed l weight) _
    c.requires.within share size c.add_weight.ensures
