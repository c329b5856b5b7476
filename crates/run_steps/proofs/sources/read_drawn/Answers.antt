use Rattle.std.proofs.Common.{◌∙◌}
use Rattle.run_steps.proofs.Sampled.{drawn_is_judged}
use Rattle.run_steps.proofs.sources.read_drawn.Goals as goal

pub returns-clause-read : goal.returns-clause-read
returns-clause-read c =
    (drawn_is_judged _ _ _ _ _ c.requires (c.deref.ensures.value ∙ c.in_ok-text.ensures.text)
    c.read_source-read.ensures.read c.read_into.ensures).0

pub returns-clause-no_fault : goal.returns-clause-no_fault
returns-clause-no_fault c =
    (drawn_is_judged _ _ _ _ _ c.requires (c.deref.ensures.value ∙ c.in_ok-text.ensures.text)
    c.read_source-read.ensures.read c.read_into.ensures).1
