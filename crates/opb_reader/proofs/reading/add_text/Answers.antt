use Rattle.opb_reader.proofs.Common.{◌≡◌, ℕ, List, length, Result, refl, sym, ap, subst, ◌∙◌, arith, err_from_is_err_and, TextFault, Word, words_of, ◌>>=◌, Gives, Fails, end_line, few_words, ProblemContent, problem_total, blank, problem_of_words, head_read}
use Rattle.opb_reader.proofs.Additions.{constraints_after, problem_of_words-put, head_fails}
use Rattle.opb_reader.proofs.reading.add_text.Goals as goal

-- the problem of words, by the values that the code has
whole : (text ws : List Word) (p : ProblemContent) (end : ℕ) → p ≡ blank → end ≡ end_line text
    → ws ≡ text → problem_of_words text ≡ head_read p end ws >>= constraints_after end
whole text ws p end new last words =
    problem_of_words-put text
    ∙ (λ i. head_read (sym new i) (sym last i) (sym words i) >>= constraints_after (sym last i))

pub head-requires-clause-small : goal.head-requires-clause-small
head-requires-clause-small c =
    let none : problem_total c.args.problem.now ≡ 0 = rw c.requires.empty refl in
    omega (arith, none, c.requires.short, few_words c.args.text.now, ap length c.words-words.ensures)

pub returns-in_err-head : goal.returns-in_err-head
returns-in_err-head c =
    let text = words_of c.args.text.now in
    let end = c.end_line-end.result in
    let p = err_from_is_err_and c.from_residual.result c.from_residual.ensures.1 in
    let read = head_read c.args.problem.now end c.words-words.result in
    rw (p.1, p.2) (subst (Fails c.in_err-head.field-0.0)
    (sym (whole text c.words-words.result c.args.problem.now end c.requires.empty
    c.end_line-end.ensures c.words-words.ensures))
    (head_fails c.in_err-head.field-0.0 end read c.in_err-head.ensures.read))

pub constraints-requires-clause-small : goal.constraints-requires-clause-small
constraints-requires-clause-small c =
    let none : problem_total c.args.problem.now ≡ 0 = rw c.requires.empty refl in
    let long = ap length c.words-words.ensures in
    omega (arith, none, c.requires.short, few_words c.args.text.now, c.in_ok-head.ensures.small)

pub returns : goal.returns
returns c =
    let text = words_of c.args.text.now in
    let end = c.end_line-end.result in
    let same = whole text c.words-words.result c.args.problem.now end c.requires.empty
    c.end_line-end.ensures c.words-words.ensures
    ∙ ap (λ (r : Result (ProblemContent × List Word) TextFault). r >>= constraints_after end)
    c.in_ok-head.ensures.read in
    subst (Gives (λ _. c.constraints.new.problem) c.constraints.result) (sym same) c.constraints.ensures
