use Rattle.chain_layer.proofs.Common.{◌≡◌, to_z, of_z, subst, sym, ap, ◌∙◌, rules, w128, to_z-of_z, IsingContent, IsIsing, image}
use Rattle.chain_layer.proofs.Ordered.{sorted_is_image, image_is_ising}
use Rattle.chain_layer.proofs.chains.image_of.Goals as goal

-- the form that is made
abbrev made_form : (c : goal.After-new) → IsingContent
made_form c = record {
  constant = to_z w128 (of_z w128 c.behind-source.inside.constant);
  fields = c.new.result;
  couplings = c.in_ok-couplings.couplings;
}

-- .. is the image
image_is : (c : goal.After-new) → made_form c ≡ image c.args.source.now
image_is c =
    let e = c.args.source.now in
    let constant : to_z w128 (of_z w128 c.behind-source.inside.constant) ≡ e.ising.constant =
    to_z-of_z w128 c.behind-source.inside.constant (search rules)
    ∙ ap (λ (f : IsingContent). f.constant) (c.behind-source.view_is ∙ c.ising.ensures.form) in
    let fields = c.new.ensures ∙ c.in_ok-fields.ensures in
    let couplings =
    sorted_is_image e c.requires.kept c.in_ok-couplings.couplings c.in_ok-couplings.ensures.same
    c.in_ok-couplings.ensures.ordered in
    λ k. record { constant = constant k; fields = fields k; couplings = couplings k }

pub invariant_of-result : goal.invariant_of-result
invariant_of-result c =
    subst IsIsing (sym (image_is c))
    (image_is_ising c.args.source.now c.requires.kept c.requires.total)

pub returns : goal.returns
returns c = image_is c
