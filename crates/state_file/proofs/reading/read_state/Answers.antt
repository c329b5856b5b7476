use Rattle.state_file.proofs.Common.{arith, nat_tests, lines_of}
use Rattle.state_file.proofs.StateLines.{first_state}
use Rattle.state_file.proofs.reading.read_state.Goals as goal

pub returns-in_ok-bits-in-Some-clause-state : goal.returns-in_ok-bits-in-Some-clause-state
returns-in_ok-bits-in-Some-clause-state c =
    let first = first_state c.args.length 1 (lines_of c.args.text.now) in grind (arith, nat_tests)

pub returns-in-None-clause-no_state : goal.returns-in-None-clause-no_state
returns-in-None-clause-no_state c =
    let first = first_state c.args.length 1 (lines_of c.args.text.now) in grind (arith, nat_tests)
