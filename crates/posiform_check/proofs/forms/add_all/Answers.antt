use Rattle.posiform_check.proofs.Common.{rules, ◌≡◌, ◌∙◌, [], ◌∷◌, to_z, of_z, w128, flat_map, line_terms, refl, behind-nothing, additions_first}
use Rattle.posiform_check.proofs.Gathering.{rest_left, certificate_fits, next_fits}
use Rattle.posiform_check.proofs.forms.add_all.Goals as goal

pub add-requires : goal.add-requires
add-requires c =
    let cert = c.args.certificate.now in
    let bound : to_z w128 (of_z w128 c.certificate.inside.bound) ≡ cert.bound = search rules in
    let fits = certificate_fits _ cert (search rules) c.requires.few c.requires.nodes in
    rw (bound, c.requires.none)
    (additions_first (record { width = c.args.terms.now.width; terms = [] }) (([], cert.bound) ∷ [])
    (flat_map line_terms cert.lines) _ refl fits)

pub loop-literals-init : goal.loop-literals-init
loop-literals-init c =
    let cert = c.args.certificate.now in
    let bound : to_z w128 (of_z w128 c.certificate.inside.bound) ≡ cert.bound = search rules in
    let items : c.into_iter-literals-iterator.result ≡ cert.lines = search rules in
    record {
      whole = rw (items, c.in_ok-add.ensures, bound, c.requires.none) refl;
      list = c.requires.list;
    }

pub add_plain_terms-requires : goal.add_plain_terms-requires
add_plain_terms-requires c =
    let h = c.loop-literals.invariant in
    let cert = c.args.certificate.now in
    let steps = rw (← c.literals.view_is) at c.in-Some.ensures.steps in
    let own : to_z w128 (of_z w128 c.literals.inside.coefficient) ≡ c.literals.inside.coefficient = search rules in
    rw (c.deref.ensures.value, c.in_ok-copy_into.ensures, own, h.list, behind-nothing)
    (next_fits line_terms _ _ _ _ steps
    (rw h.whole (certificate_fits _ cert (search rules) c.requires.few c.requires.nodes)))

pub loop-literals-preserved : goal.loop-literals-preserved
loop-literals-preserved c =
    let h = c.loop-literals.invariant in
    let steps = rw (← c.literals.view_is) at c.in-Some.ensures.steps in
    let own : to_z w128 (of_z w128 c.literals.inside.coefficient) ≡ c.literals.inside.coefficient = search rules in
    let set = c.deref.ensures.value ∙ c.in_ok-copy_into.ensures in
    let made = rw (set, own, h.list, behind-nothing) at c.in_ok-add_plain_terms.ensures.added in
    record {
      whole = rest_left line_terms _ _ _ _ _ steps made ∙ h.whole;
      list = c.in_ok-add_plain_terms.ensures.kept ∙ h.list;
    }
