use Rattle.opb_reader.proofs.Lemmas.{◌≡◌, ◌∷◌, ◌++◌, [], List, sym, ap, ◌∙◌, arith, word_of, Literal, product_at, literals_read, product_first}
use Rattle.opb_reader.proofs.sums.product.Goals as goal

pub push-requires : goal.push-requires
push-requires c = omega (arith, c.in_ok-literal.ensures.small, c.ranges.limit)

pub returns-clause-read : goal.returns-clause-read
returns-clause-read c =
    let l : Literal = c.in_ok-literal.field-0 in
    let list : c.push.new.list.items ≡ l ∷ [] =
    c.in_ok-push.ensures.pushed ∙ ap (λ (ls : List Literal). ls ++ l ∷ []) c.requires in
    let same : product_at c.args.limit c.args.end c.args.words.now
    ≡ literals_read c.args.limit c.push.new.list.items c.next_word.new.words =
    product_first c.args.limit c.args.end c.args.words.now c.next_word.new.words
    (word_of c.in_ok-first.first) l c.in_ok-first.ensures (sym c.in_ok-literal.ensures.value)
    ∙ ap (λ (ls : List Literal). literals_read c.args.limit ls c.next_word.new.words) (sym list) in
    rw same c.more_literals.ensures.read
