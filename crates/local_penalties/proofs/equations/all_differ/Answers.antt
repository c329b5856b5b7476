use Rattle.local_penalties.proofs.Common.{◌∙◌, ap, neighbours_differ, all_differ}
use Rattle.local_penalties.proofs.Differing.{differ-descending}
use Rattle.local_penalties.proofs.equations.all_differ.Goals as goal

pub returns : goal.returns
returns c =
    c.neighbours_differ.ensures ∙ ap neighbours_differ (c.deref.ensures.value ∙ c.sort_down.ensures)
    ∙ differ-descending c.put_variables.new.buffer.items ∙ ap all_differ c.in_ok-put_variables.ensures
