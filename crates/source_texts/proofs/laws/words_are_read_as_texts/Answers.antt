use Rattle.source_texts.proofs.Standing.{words_read}
use Rattle.source_texts.proofs.laws.words_are_read_as_texts.Goals as goal

pub returns : goal.returns
returns c = words_read
