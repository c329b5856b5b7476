use Rattle.source_texts.proofs.Common.{sym, subst, ◌∙◌, IsWbo, carries_assignments}
use Rattle.source_texts.proofs.carrying.soft_cost.Goals as goal

-- the extension costs in the rewritten problem what the assignment costs
pub returns : goal.returns
returns c =
    let is : IsWbo c.args.wbo.now = subst IsWbo c.wbo.view_is c.wbo.invariant in
    let carried = carries_assignments c.args.wbo.now is.normal c.args.x.now c.requires.width in
    c.cost.ensures ∙ sym carried.costs
