use Rattle.ising_form.proofs.Common.{nat_tests, ◌≡◌, subst, IsQuad, spins_constant, spins_fields, ap, ◌∙◌, arith, rules, w128, to_z-of_z, BitsLink, QuadContent, ising_total, ising_size, Fits}
use Rattle.ising_form.proofs.Images.{image_is_ising, total-image, size-image, made_keeps}
use Rattle.ising_form.proofs.to_spins.ToSpinsLayer.lower.Goals as goal

pub invariant_of-result : goal.invariant_of-result
invariant_of-result c = grind (arith, nat_tests, to_z-of_z, image_is_ising)

pub returns-clause-image : goal.returns-clause-image
returns-clause-image c =
    let form = c.source.view_is in
    let back = to_z-of_z w128 c.spins_of-spins.result.constant (search rules) in
    let own = to_z-of_z w128 c.source.inside.constant (search rules) in
    let nodes : c.in_ok-nodes.nodes.items ≡ c.source.inside.diagonal = search rules in
    let constant = back ∙ c.spins_of-spins.ensures.constant
    ∙ (λ i. spins_constant (own i) (nodes i) c.source.inside.couplers)
    ∙ ap (λ (f : QuadContent). spins_constant f.constant f.diagonal f.couplers) form in
    let fields = c.new.ensures ∙ c.spins_of-spins.ensures.fields
    ∙ (λ i. spins_fields (nodes i) c.source.inside.couplers)
    ∙ ap (λ (f : QuadContent). spins_fields f.diagonal f.couplers) form in
    let couplings = c.in_ok-couplings.ensures ∙ ap (λ (f : QuadContent). f.couplers) form in
    λ i. record { constant = constant i; fields = fields i; couplings = couplings i }

pub returns-clause-keeps : goal.returns-clause-keeps
returns-clause-keeps c =
    let link : BitsLink = record { source_width = c.width-width.result; target_width = c.width-width.result } in
    let fits : Fits link c.args.source.now = record {
      source = c.width-width.ensures;
      target = c.width-width.ensures;
      quad = subst IsQuad c.source.view_is c.source.invariant;
    } in
    made_keeps link c.args.source.now _ fits (returns-clause-image c)

pub returns-clause-total : goal.returns-clause-total
returns-clause-total c =
    omega (arith, ap ising_total (returns-clause-image c), total-image c.args.source.now)

pub returns-clause-size : goal.returns-clause-size
returns-clause-size c =
    omega (arith, ap ising_size (returns-clause-image c), size-image c.args.source.now)
