use Rattle.wbo_reader.proofs.Lemmas.{◌≡◌, ◌≤◌, ◌^◌, ℕ, List, Option, length, Result, Ok, sym, ap, subst, ◌∙◌, arith, err_from_is_err_and, TextFault, Word, words_of, ◌>>=◌, Fails, end_line, few_words, WboContent, wbo_total, content_of_words, head_at, nothing, constraints_read, constraints_after, content_of_words-put, head_fails}
use Rattle.wbo_reader.proofs.Read.{read_is_wbo}
use Rattle.wbo_reader.proofs.reading.read_wbo_tokens.Goals as goal

-- the source of words, by the values that the code has
whole : (text ws : List Word) (end : ℕ) → end ≡ end_line text → ws ≡ text
    → content_of_words text ≡ head_at end ws >>= constraints_after end
whole text ws end last words =
    content_of_words-put text
    ∙ (λ i. head_at (sym last i) (sym words i) >>= constraints_after (sym last i))

-- and with what stands before the constraints
after_head : (text ws rest : List Word) (end : ℕ) (top : Option ℕ) (s : WboContent)
    → end ≡ end_line text → ws ≡ text → head_at end ws ≡ Ok (top, rest) → s ≡ nothing top
    → content_of_words text ≡ constraints_read s end rest
after_head text ws rest end top s last words head new =
    whole text ws end last words
    ∙ ap (λ (r : Result (Option ℕ × List Word) TextFault). r >>= constraints_after end) head
    ∙ ap (λ (t : WboContent). constraints_read t end rest) (sym new)

pub returns-in_err-top : goal.returns-in_err-top
returns-in_err-top c =
    let text = words_of c.args.text.now in
    let end = c.end_line-end.result in
    let words = c.words-words.result in
    let p = err_from_is_err_and c.from_residual.result c.from_residual.ensures.1 in
    rw (p.1, p.2) (whole text words end c.end_line-end.ensures c.words-words.ensures
    ∙ head_fails c.in_err-top.field-0.0 end (head_at end words) c.in_err-top.ensures.read)

pub read_into-requires : goal.read_into-requires
read_into-requires c =
    let total = ap wbo_total c.new-gathered.ensures in
    let long = ap length c.words-words.ensures in
    omega (arith, c.requires, few_words c.args.text.now, c.in_ok-top.ensures.small)

pub returns-in_err-read_into : goal.returns-in_err-read_into
returns-in_err-read_into c =
    let text = words_of c.args.text.now in
    let end = c.end_line-end.result in
    let e = c.in_err-read_into.field-0.0 in
    let residual = c.from_residual-in_err-read_into in
    let p = err_from_is_err_and residual.result residual.ensures.1 in
    let same = after_head text c.words-words.result c.head.new.words end c.in_ok-top.top
    c.new-gathered.result c.end_line-end.ensures c.words-words.ensures c.in_ok-top.ensures.read
    c.new-gathered.ensures in
    rw (p.1, p.2) (subst (Fails e) (sym same) c.in_err-read_into.ensures.read)

pub into_wbo-requires : goal.into_wbo-requires
into_wbo-requires c =
    let end = c.end_line-end.result in
    let rest = c.head.new.words in
    let read = c.in_ok-read_into.ensures.read in
    let few : length rest ≤ 2 ^ 24 = let ensures_is = ap length c.words-words.ensures in
    omega (arith, c.requires, few_words c.args.text.now, c.in_ok-top.ensures.small) in
    read_is_wbo c.in_ok-top.top end rest c.read_into.new.gathered
    (subst (λ (s : WboContent). constraints_read s end rest ≡ Ok c.read_into.new.gathered)
    c.new-gathered.ensures read) c.in_ok-top.ensures.some few c.in_ok-read_into.ensures.small

pub returns : goal.returns
returns c =
    let text = words_of c.args.text.now in
    let end = c.end_line-end.result in
    let same = after_head text c.words-words.result c.head.new.words end c.in_ok-top.top
    c.new-gathered.result c.end_line-end.ensures c.words-words.ensures c.in_ok-top.ensures.read
    c.new-gathered.ensures in
    same ∙ c.in_ok-read_into.ensures.read ∙ ap (λ (s : WboContent). Ok s) (sym c.into_wbo.ensures)
