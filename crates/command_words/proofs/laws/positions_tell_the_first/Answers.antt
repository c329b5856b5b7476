use Rattle.command_words.proofs.Positions.{tell_the_first}
use Rattle.command_words.proofs.laws.positions_tell_the_first.Goals as goal

pub returns : goal.returns
returns c = tell_the_first
