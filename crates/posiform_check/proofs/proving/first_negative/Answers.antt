use Rattle.posiform_check.proofs.Common.{rules}
use Rattle.posiform_check.proofs.proving.first_negative.Goals as goal

pub loop-line-preserved : goal.loop-line-preserved
loop-line-preserved c = search rules
