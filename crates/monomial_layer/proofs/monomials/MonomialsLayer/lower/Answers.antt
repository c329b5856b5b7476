use Rattle.monomial_layer.proofs.Common.{nat_tests, ◌∙◌, ap, sym, subst, arith, pos, BitsLink, first_bits, Keeps, KeptTable, IsLow, form_of, table_size, Fits, mono_keeps}
use Rattle.monomial_layer.proofs.Sets.{IsLow-image}
use Rattle.monomial_layer.proofs.Sizes.{all_nodes-le, total-image_terms, size-image}
use Rattle.monomial_layer.proofs.monomials.MonomialsLayer.lower.Goals as goal

pub width-requires-2 : goal.width-requires-2
width-requires-2 c =
    let width = ap (λ (t : KeptTable). t.content.width) c.in_ok-target.ensures.made in
    omega (arith, width, all_nodes-le c.args.source.now.content.terms, c.requires.size)

pub known_low-requires : goal.known_low-requires
known_low-requires c =
    subst (λ (t : KeptTable). IsLow t.content) (sym c.in_ok-target.ensures.made) (IsLow-image c.args.source.now.content)

pub returns-clause-keeps : goal.returns-clause-keeps
returns-clause-keeps c =
    let t = c.args.source.now.content in
    let link : BitsLink = record { source_width = c.width.result; target_width = c.width-2.result } in
    let made = c.in_ok-target.ensures.made in
    let fits : Fits link t = record {
      source = c.width.ensures;
      target = c.width-2.ensures ∙ ap (λ (u : KeptTable). u.content.width) made;
      table = c.in_ok-target.ensures.kept;
    } in
    subst (λ (u : KeptTable). Keeps (form_of t) (form_of u.content) (first_bits link) (pos 1) (pos 0))
    (sym (c.known_low.ensures ∙ made)) (mono_keeps link t fits)

pub returns-clause-total : goal.returns-clause-total
returns-clause-total c = grind (arith, nat_tests, total-image_terms)

pub returns-clause-size : goal.returns-clause-size
returns-clause-size c =
    let same = ap (λ (u : KeptTable). table_size u.content) (c.known_low.ensures ∙ c.in_ok-target.ensures.made) in
    omega (arith, same, size-image c.args.source.now.content)
