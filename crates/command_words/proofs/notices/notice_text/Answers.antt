use Rattle.std.proofs.Common.{refl}
use Rattle.command_words.proofs.notices.notice_text.Goals as goal

pub returns-in-Help-clause-whole : goal.returns-in-Help-clause-whole
returns-in-Help-clause-whole c = rw c.in-Help.is refl
