use Rattle.ising_form.proofs.Common.{◌∙◌, arith, nat_tests, to_z-of_z}
use Rattle.ising_form.proofs.Images.{image_is_ising, empty_is_quad}
use Rattle.ising_form.proofs.ising.Ising.from_quad.Goals as goal

pub invariant_of-result : goal.invariant_of-result
invariant_of-result c = grind (arith, nat_tests, to_z-of_z, image_is_ising)

-- what is left of the form has no nodes
pub invariant_of-quad : goal.invariant_of-quad
invariant_of-quad c =
    empty_is_quad c.quad.inside.constant _ _ (c.replace-nodes.ensures.after ∙ c.new-2.ensures ∙ c.new.ensures.items)
    (c.replace-couplers.ensures.after ∙ c.empty.ensures) (omega (arith, c.quad.invariant.small))
