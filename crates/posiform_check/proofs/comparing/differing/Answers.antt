use Rattle.posiform_check.proofs.Common.{rules}
use Rattle.posiform_check.proofs.comparing.differing.Goals as goal

pub returns-then-coefficient-value : goal.returns-then-coefficient-value
returns-then-coefficient-value c = search rules
