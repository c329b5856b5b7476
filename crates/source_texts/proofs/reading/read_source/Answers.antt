use Rattle.source_texts.proofs.Common.{sym, ap, subst, ◌∙◌, Gives, tokens_of, problem_of_words}
use Rattle.source_texts.proofs.Standing.{words_read}
use Rattle.source_texts.proofs.reading.read_source.Goals as goal

pub returns-clause-read : goal.returns-clause-read
returns-clause-read c =
    let format = c.args.format in
    let text = c.args.text.now in
    let cut = c.in_ok-cut_words.ensures.words ∙ ap (λ s. tokens_of s text) c.style_of.ensures in
    let same = words_read c.args.slack format text ∙ ap (problem_of_words c.args.slack format) (sym cut) in
    subst (Gives (λ read. read) c.read_source_words.result) (sym same) c.read_source_words.ensures.read
