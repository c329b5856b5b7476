use Rattle.rosenberg_layer.proofs.Common.{◌∙◌, ap, sym, subst, arith, pos, BitsLink, first_bits, Keeps, terms_total, KeptTable, IsLow, form_of, table_size, Fits, rosen_keeps}
use Rattle.rosenberg_layer.proofs.Ends.{IsLow-image, nodes-few}
use Rattle.rosenberg_layer.proofs.Turns.{excess-size}
use Rattle.rosenberg_layer.proofs.Growth.{total-image, size-image}
use Rattle.rosenberg_layer.proofs.rosenberg.RosenbergLayer.lower.Goals as goal

pub width-requires-2 : goal.width-requires-2
width-requires-2 c =
    let width = ap (λ (u : KeptTable). u.content.width) c.in_ok-target.ensures.made in
    omega (arith, width, nodes-few, excess-size)

pub known_low-requires : goal.known_low-requires
known_low-requires c =
    subst (λ (u : KeptTable). IsLow u.content) (sym c.in_ok-target.ensures.made)
    (IsLow-image c.args.source.now.content c.in_ok-target.ensures.kept.terms)

pub returns-clause-keeps : goal.returns-clause-keeps
returns-clause-keeps c =
    let t = c.args.source.now.content in
    let link : BitsLink = record { source_width = c.width.result; target_width = c.width-2.result } in
    let made = c.in_ok-target.ensures.made in
    let fits : Fits link t = record {
      source = c.width.ensures;
      target = c.width-2.ensures ∙ ap (λ (u : KeptTable). u.content.width) made;
      table = c.in_ok-target.ensures.kept;
    } in
    subst (λ (u : KeptTable). Keeps (form_of t) (form_of u.content) (first_bits link) (pos 1) (pos 0))
    (sym (c.known_low.ensures ∙ made)) (rosen_keeps link t fits)

pub returns-clause-total : goal.returns-clause-total
returns-clause-total c =
    let same =
    ap (λ (u : KeptTable). terms_total u.content.terms)
    (c.known_low.ensures ∙ c.in_ok-target.ensures.made) in
    omega (arith, same, total-image c.args.source.now.content c.in_ok-target.ensures.kept.terms)

pub returns-clause-size : goal.returns-clause-size
returns-clause-size c =
    let same = ap (λ (u : KeptTable). table_size u.content) (c.known_low.ensures ∙ c.in_ok-target.ensures.made) in
    omega (arith, same, size-image c.args.source.now.content c.in_ok-target.ensures.kept.terms)
