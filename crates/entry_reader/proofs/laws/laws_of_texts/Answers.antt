use Rattle.entry_reader.proofs.Energies.{texts_keep_energies}
use Rattle.entry_reader.proofs.laws.laws_of_texts.Goals as goal

pub returns : goal.returns
returns c = texts_keep_energies
