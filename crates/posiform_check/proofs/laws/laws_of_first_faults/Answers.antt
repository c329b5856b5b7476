use Rattle.posiform_check.proofs.FirstFaults.{first_faults_tell}
use Rattle.posiform_check.proofs.laws.laws_of_first_faults.Goals as goal

pub returns : goal.returns
returns c = first_faults_tell
