use Rattle.run_steps.proofs.Lemmas.{nat_tests, arith, ◌∙◌, cut_none, words_cut}
use Rattle.run_steps.proofs.cut.cut_begun.Goals as goal

pub feed_rest-requires-clause-cut : goal.feed_rest-requires-clause-cut
feed_rest-requires-clause-cut g c = grind (arith, nat_tests, cut_none)

pub finish-requires : goal.finish-requires
finish-requires g c =
    let cut = c.in-Ok.ensures.cut in
    (cut.text, cut.stands)

pub returns-in-Ok-finish-clause-words : goal.returns-in-Ok-finish-clause-words
returns-in-Ok-finish-clause-words g c =
    let fed = c.in-Ok.ensures in
    let new = c.feed_rest.new.files in
    words_cut _ _ _ _ _ _ _ _ fed.cut fed.at_end fed.end.0 (fed.style ∙ c.new-lexer.ensures.style)
    c.in-Ok-finish.ensures.words

pub returns-in-Ok-finish-clause-short : goal.returns-in-Ok-finish-clause-short
returns-in-Ok-finish-clause-short g c =
    let cut = c.in-Ok.ensures.cut in
    grind (arith, nat_tests)
