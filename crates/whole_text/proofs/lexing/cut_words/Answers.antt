use Rattle.whole_text.proofs.Common.{[]}
use Rattle.whole_text.proofs.lexing.cut_words.Goals as goal

pub finish-requires : goal.finish-requires
finish-requires c = (c.args.text.now, c.in_ok-fed.ensures.fed [] c.new.ensures.empty)
