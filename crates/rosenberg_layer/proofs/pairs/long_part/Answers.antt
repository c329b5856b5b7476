use Rattle.rosenberg_layer.proofs.Common.{◌∙◌, [], All-filter, ap, filter, IfOk-weaker, with_additions, kept_at_once, IsNonzero, is_long}
use Rattle.rosenberg_layer.proofs.LongParts.{none-after}
use Rattle.rosenberg_layer.proofs.Parts.{filter-ascends, with_additions-itself}
use Rattle.rosenberg_layer.proofs.pairs.long_part.Goals as goal

pub returns : goal.returns
returns c =
    let ts = c.args.table.now.content.terms in
    let kept = c.after.ensures.kept.terms in
    let sums =
    ap (λ us. with_additions [] (filter is_long us)) (none-after c.node.result ts)
    ∙ with_additions-itself (filter is_long ts) (filter-ascends is_long ts kept.ordered)
    (All-filter is_long IsNonzero ts kept.nonzero) in
    IfOk-weaker c.after.result _ _
    (λ next is. is ∙ (λ i. kept_at_once (record { width = c.requires i; terms = sums i }))) c.after.ensures.after
