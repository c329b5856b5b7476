use Rattle.normal_form.proofs.Common.{rules, ◌≡◌, ap, sym, ◌∙◌, subst, w128, to_z-of_z, rest_more, terms_cost, KeptTable, kept_at_once, with_more, contributions, expanded, multiplied, IsMultilinear, cost_expanded}
use Rattle.normal_form.proofs.Expanded.{AreAdditions-multiplied, multilinear-expanded, next_additions, next_whole}
use Rattle.normal_form.proofs.multiplied.expand.Goals as goal

pub add_plain_terms-requires : goal.add_plain_terms-requires
add_plain_terms-requires c =
    let left = rest_more _ c.loop-literals.literals-iterator c.next.new.self c.next.result (c.in-Some.literals, c.in-Some.coefficient) c.in-Some.is c.next.ensures.steps in
    let back = to_z-of_z w128 c.in-Some.coefficient (search rules) in
    let h = c.loop-literals.invariant in
    rw back (next_additions c.loop-literals.terms (multiplied c.args.table.now.content) _ _ _ _ left h.list h.whole h.fits)

pub loop-literals-init : goal.loop-literals-init
loop-literals-init c =
    let t = c.args.table.now.content in
    let items : c.into_iter-literals-iterator.result ≡ t.terms = search rules in
    record {
      whole = λ i. with_more (c.as_wide_as-terms.ensures i) (contributions (items i));
      fits = AreAdditions-multiplied t c.terms-literals-items.ensures.kept c.requires.few c.requires.small;
      list = c.new-list.ensures.items;
    }

pub loop-literals-preserved : goal.loop-literals-preserved
loop-literals-preserved c =
    let left = rest_more _ c.loop-literals.literals-iterator c.next.new.self c.next.result (c.in-Some.literals, c.in-Some.coefficient) c.in-Some.is c.next.ensures.steps in
    let back = to_z-of_z w128 c.in-Some.coefficient (search rules) in
    let h = c.loop-literals.invariant in
    let made = rw back at c.in_ok-add_plain_terms.ensures.added in
    record {
      whole = next_whole c.loop-literals.terms c.add_plain_terms.new.terms (multiplied c.args.table.now.content) _ _ _ _ left h.list h.whole made;
      fits = h.fits;
      list = c.in_ok-add_plain_terms.ensures.kept ∙ h.list;
    }

pub returns-clause-cost : goal.returns-clause-cost
returns-clause-cost c =
    let t = c.args.table.now.content in
    let made : c.into_table.result ≡ kept_at_once (expanded t) = search rules in
    λ x. ap (λ (u : KeptTable). terms_cost x u.content.terms) made ∙ cost_expanded t x

pub returns-clause-plain : goal.returns-clause-plain
returns-clause-plain c =
    let made : c.into_table.result ≡ kept_at_once (expanded c.args.table.now.content) = search rules in
    subst (λ (u : KeptTable). IsMultilinear u.content) (sym made) (multilinear-expanded c.args.table.now.content)
