use Rattle.std.proofs.Common.{refl}
use Rattle.command_words.proofs.words.target_word.Goals as goal

pub returns-in-Some : goal.returns-in-Some
returns-in-Some c = rw (c.in-Some.ensures, ← c.target_of.ensures) c.ok_or.ensures.value

pub returns-in-None : goal.returns-in-None
returns-in-None c = rw c.in-None.ensures refl
