use Rattle.posiform_check.proofs.Common.{rest_more, entry_sets}
use Rattle.posiform_check.proofs.Gathering.{model_fits, next_fits}
use Rattle.posiform_check.proofs.forms.model_table.Goals as goal

pub add_entry-requires-clause-fits : goal.add_entry-requires-clause-fits
add_entry-requires-clause-fits c =
    let left = rest_more _ _ _ _ _ c.in-Some.is c.next.ensures.steps in
    next_fits (entry_sets c.args.kind) c.loop-entry.terms _ _ _ left (rw c.loop-entry.invariant.whole
    (model_fits c.args.kind c.args.nodes c.args.entries.now c.requires.placed c.requires.small))
