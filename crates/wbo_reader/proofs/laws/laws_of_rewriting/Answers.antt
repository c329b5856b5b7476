use Rattle.wbo_reader.proofs.Rewritten.{rewrites_its_source, carries_assignments}
use Rattle.wbo_reader.proofs.Sound.{rewritten_is_sound}
use Rattle.wbo_reader.proofs.Spending.{upper_is_soft_weights}
use Rattle.wbo_reader.proofs.Within.{top_is_a_bound}
use Rattle.wbo_reader.proofs.laws.laws_of_rewriting.Goals as goal

pub returns-clause-rewrites : goal.returns-clause-rewrites
returns-clause-rewrites c = rewrites_its_source

pub returns-clause-carries : goal.returns-clause-carries
returns-clause-carries c = carries_assignments

pub returns-clause-sound : goal.returns-clause-sound
returns-clause-sound c = rewritten_is_sound

pub returns-clause-upper : goal.returns-clause-upper
returns-clause-upper c = upper_is_soft_weights

pub returns-clause-bound : goal.returns-clause-bound
returns-clause-bound c = top_is_a_bound
