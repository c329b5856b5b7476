use Rattle.entry_reader.proofs.TextsAgain.{texts_are_read_again}
use Rattle.entry_reader.proofs.laws.texts_are_read_again.Goals as goal

pub returns : goal.returns
returns c = texts_are_read_again
