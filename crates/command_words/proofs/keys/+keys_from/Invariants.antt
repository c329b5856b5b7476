use Rattle.command_words.proofs.Common.{length}
use Rattle.command_words.proofs.keys.+keys_from.Given as goal

abbrev pub decreases-keys_from : goal.decreases-keys_from
decreases-keys_from l = length l.words.now
