use Rattle.rosenberg_layer.proofs.Common.{◌+◌, ◌∙◌, [], All, All-weaker, ap, sym, subst, Literal, recursion_from_All, IfOk-weaker, Term, with_additions, IsTermSet, kept_at_once, OfSet, new_term, node, long_after}
use Rattle.rosenberg_layer.proofs.LongParts.{pair_is, set_after}
use Rattle.rosenberg_layer.proofs.pairs.replaced.Goals as goal

pub after-requires : goal.after-requires
after-requires c kept =
    let t = c.args.long.now.content in
    let n = t.width in
    let ok =
    pair_is n c.args.pair t.terms (recursion_from_All (OfSet (IsTermSet n)) t.terms kept.terms.sets) c.requires.long
    c.requires.first in
    let sets =
    All-weaker (OfSet (IsTermSet n)) (λ (u : Term). IsTermSet (n + 1) (new_term c.args.pair (node n) u).0)
    (λ u set. set_after n c.args.pair u ok set) t.terms kept.terms.sets in
    subst (λ (w : Literal). All (λ (u : Term). IsTermSet (c.args.number + 1) (new_term c.args.pair w u).0) t.terms)
    (sym c.node.ensures)
    (subst (λ m. All (λ (u : Term). IsTermSet (m + 1) (new_term c.args.pair (node m) u).0) t.terms)
    (sym c.requires.number) sets)

pub returns : goal.returns
returns c =
    let t = c.args.long.now.content in
    let w = c.node.ensures ∙ ap node c.requires.number in
    IfOk-weaker c.after.result _ _
    (λ next is. is ∙ (λ i. kept_at_once
    (record { width = c.requires.number i + 1; terms = with_additions [] (long_after c.args.pair (w i) t.terms) })))
    c.after.ensures.after
