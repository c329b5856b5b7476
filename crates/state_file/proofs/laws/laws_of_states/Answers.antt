use Rattle.state_file.specs.States.{lines_of}
use Rattle.state_file.proofs.StateLines.{first_state}
use Rattle.state_file.proofs.laws.laws_of_states.Goals as goal

pub returns : goal.returns
returns c width text = first_state width 1 (lines_of text)
