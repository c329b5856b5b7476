use Rattle.cut_chains.proofs.Common.{sorted_is_in_order, ◌≡◌, ◌++◌, to_z, of_z, subst, sym, ap, ◌∙◌, rules, arith, w128, IsPermutation, to_z-of_z, IsingContent, IsIsing, placed, cut_image, cut_ties, cut_strength, all_couplers, couplings_apart}
use Rattle.cut_chains.proofs.CutSizes.{cut_cost-le, left_cost, cut_some, cut_is_ising}
use Rattle.cut_chains.proofs.image.image_of.Goals as goal

pub cost_from-cost-requires-clause-small : goal.cost_from-cost-requires-clause-small
cost_from-cost-requires-clause-small c =
    let e = c.args.source.now in
    let kept = c.ising.ensures.kept in
    let made = c.in_ok-gathered.ensures in
    omega (arith, left_cost e kept _ _ made.made made.count, cut_cost-le e kept)

-- the form that is made
abbrev made_form : (c : goal.After-new) → IsingContent
made_form c = record {
  constant = to_z w128 (of_z w128 c.behind-source.inside.constant);
  fields = c.new.result;
  couplings = c.in_ok-couplings.couplings;
}

-- .. is the image
image_is : (c : goal.After-new) → made_form c ≡ cut_image c.args.source.now
image_is c =
    let e = c.args.source.now in
    let kept = c.ising.ensures.kept in
    let es = placed e.ising.couplings e.places ++ cut_ties e in
    let constant : to_z w128 (of_z w128 c.behind-source.inside.constant) ≡ e.ising.constant =
    to_z-of_z w128 c.behind-source.inside.constant (search rules)
    ∙ ap (λ (f : IsingContent). f.constant) (c.behind-source.view_is ∙ c.ising.ensures.form) in
    let fields = c.new.ensures ∙ c.in_ok-fields.ensures in
    let sorted = c.in_ok-couplings.ensures in
    let couplings =
    sorted_is_in_order e.qubits es c.in_ok-couplings.couplings kept.few
    (all_couplers (cut_strength e) (cut_some e) e kept)
    (couplings_apart (cut_strength e) (cut_some e) e kept)
    (subst (λ l. IsPermutation l c.in_ok-couplings.couplings) c.in_ok-gathered.ensures.made sorted.same)
    sorted.ordered in
    λ k. record { constant = constant k; fields = fields k; couplings = couplings k }

pub invariant_of-target : goal.invariant_of-target
invariant_of-target c =
    subst IsIsing (sym (image_is c))
    (cut_is_ising c.args.source.now c.ising.ensures.kept c.requires.total)

pub returns : goal.returns
returns c =
    let kept = c.ising.ensures.kept in
    let made = c.in_ok-gathered.ensures in
    record {
      image = image_is c;
      cost = c.cost_from-cost.ensures ∙ left_cost c.args.source.now kept _ _ made.made made.count;
      kept = kept;
    }
