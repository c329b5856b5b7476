use Rattle.quad_form.proofs.Common.{nat_tests, ◌≡◌, pos, neg_ℤ, ◌-ℤ◌, to_z, of_z, sym, ap, ◌∙◌, subst, arith, w128, ints, to_z-of_z, QuadContent, IsQuad}
use Rattle.quad_form.proofs.ReducedForms.{bits_linear, reduced_is_quad, made_of_weights, made_reduces, made_total, made_is_reduced}
use Rattle.quad_form.proofs.quad.Quad.reduce.Goals as goal

pub invariant_of-result : goal.invariant_of-result
invariant_of-result c =
    subst IsQuad
    (sym (made_of_weights c.self.inside.constant _ _ _ _ c.counted_weights-counted.ensures.nodes
    c.counted_weights-counted.ensures.couplers)) (reduced_is_quad _ c.self.invariant)

pub returns-clause-target : goal.returns-clause-target
returns-clause-target c = grind (arith, nat_tests, ints, made_of_weights)

pub returns-clause-unit : goal.returns-clause-unit
returns-clause-unit c = grind (arith, nat_tests, ints, to_z-of_z)

pub returns-clause-reduces : goal.returns-clause-reduces
returns-clause-reduces c =
    let less : to_z w128 (of_z w128 (pos 0 -ℤ to_z w128 (of_z w128 c.self.inside.constant)))
    ≡ neg_ℤ c.self.inside.constant = omega (arith, ints, c.self.invariant.small) in
    made_reduces _ bits_linear c.args.self _ _ _ (returns-clause-target c) (returns-clause-unit c)
    (less ∙ ap (λ (f : QuadContent). neg_ℤ f.constant) c.self.view_is)

pub returns-clause-total : goal.returns-clause-total
returns-clause-total c =
    made_total c.args.self _ _ (returns-clause-target c) (returns-clause-unit c)

pub returns-clause-greatest : goal.returns-clause-greatest
returns-clause-greatest c =
    made_is_reduced c.args.self _ _ (returns-clause-target c) (returns-clause-unit c)
