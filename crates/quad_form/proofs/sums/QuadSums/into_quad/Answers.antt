use Rattle.quad_form.proofs.Common.{nat_tests, rules, ◌∙◌, List, arith, length, subst, w128, to_z-of_z, Entry}
use Rattle.pair_sums.specs.Pairs as pairs
use Rattle.quad_form.proofs.SummedForms.{IsQuad-sums, sums_are_image}
use Rattle.quad_form.proofs.sums.QuadSums.into_quad.Goals as goal

pub summed-requires-clause-pairs : goal.summed-requires-clause-pairs
summed-requires-clause-pairs c =
    let n = length c.args.self.weights in
    grind (arith, nat_tests)

pub invariant_of-result : goal.invariant_of-result
invariant_of-result c =
    let parts = c.into_parts-constant.ensures in
    IsQuad-sums c.args.self _ c.new.result c.in_ok-couplers.couplers parts.fits
    (to_z-of_z w128 c.into_parts-constant.result.0 (search rules) ∙ parts.constant) (c.new.ensures ∙ parts.weights)
    (subst (λ (es : List Entry). pairs.AreSummed es c.in_ok-couplers.couplers) parts.pairs c.in_ok-couplers.ensures)

pub returns : goal.returns
returns c t held =
    let parts = c.into_parts-constant.ensures in
    let constant = to_z-of_z w128 c.into_parts-constant.result.0 (search rules) ∙ parts.constant in
    let nodes = c.new.ensures ∙ parts.weights in
    let summed =
    subst (λ (es : List Entry). pairs.AreSummed es c.in_ok-couplers.couplers) parts.pairs c.in_ok-couplers.ensures in
    sums_are_image t c.args.self parts.fits held _
    (IsQuad-sums c.args.self _ c.new.result c.in_ok-couplers.couplers parts.fits constant nodes summed) constant nodes summed
