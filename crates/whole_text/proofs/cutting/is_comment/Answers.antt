use Rattle.whole_text.proofs.Common.{nat_tests, arith, sym, ltb-true, ltb-false}
use Rattle.whole_text.proofs.LineWords.{comment_from_byte, comment_none}
use Rattle.whole_text.proofs.cutting.is_comment.Goals as goal

pub returns-in-Some : goal.returns-in-Some
returns-in-Some c = grind (arith, nat_tests, comment_from_byte, ltb-true)

pub returns-in-None : goal.returns-in-None
returns-in-None c =
    comment_none c.args.style c.args.line.now c.blank_len.result c.blank_len.ensures.first (ltb-false _ _ (sym c.in-None.ensures.lookup.0))
