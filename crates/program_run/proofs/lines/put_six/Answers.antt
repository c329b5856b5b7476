use Rattle.program_run.proofs.Common.{arith, nat_tests}
use Rattle.program_run.proofs.Said.{said_of}
use Rattle.program_run.proofs.lines.put_six.Goals as goal

pub returns : goal.returns
returns g c = grind (arith, nat_tests, said_of)
