use Rattle.opb_reader.proofs.Lemmas.{◌≡◌, ◌∷◌, [], length, true, false, sym, ap, ◌∙◌, arith, err_from_is_err_and, word_of, Literal, widened, begins_literal, literal_goes_on, literal_fails, literals_stop, literals_end, widened-append}
use Rattle.opb_reader.proofs.sums.more_literals.Goals as goal

pub returns-then-not-begins_literal-clause-read : goal.returns-then-not-begins_literal-clause-read
returns-then-not-begins_literal-clause-read c =
    let w = word_of c.in-Some.word in
    let before = rw c.in-Some.ensures at c.loop-word.invariant.read in
    let begins : begins_literal w.bytes ≡ false =
    sym c.begins_literal.ensures ∙ c.if-not-begins_literal.true in
    sym before ∙ literals_stop c.args.limit c.loop-word.list.items w c.next.new.self begins

pub returns-in_err-literal-clause-read : goal.returns-in_err-literal-clause-read
returns-in_err-literal-clause-read c =
    let w = word_of c.in-Some.word in
    let before = rw c.in-Some.ensures at c.loop-word.invariant.read in
    let begins : begins_literal w.bytes ≡ true =
    sym c.begins_literal.ensures ∙ c.if-not-begins_literal.false in
    let p = err_from_is_err_and c.from_residual.result c.from_residual.ensures.1 in
    rw (p.1, p.2) (sym before ∙ literal_fails c.args.limit c.loop-word.list.items w c.next.new.self
    c.in_err-literal.field-0.0 begins (sym c.in_err-literal.ensures.value))

pub push-requires : goal.push-requires
push-requires c = omega (arith, c.in_ok-literal.ensures.small, c.ranges.limit)

pub loop-word-preserved : goal.loop-word-preserved
loop-word-preserved c =
    let w = word_of c.in-Some.word in
    let l : Literal = c.in_ok-literal.field-0 in
    let before = rw c.in-Some.ensures at c.loop-word.invariant.read in
    let begins : begins_literal w.bytes ≡ true =
    sym c.begins_literal.ensures ∙ c.if-not-begins_literal.false in
    record {
      read = rw c.in_ok-push.ensures.pushed
          (sym (literal_goes_on c.args.limit c.loop-word.list.items w c.next.new.self l begins
          (sym c.in_ok-literal.ensures.value)) ∙ before);
      counted = λ v h. rw c.in_ok-push.ensures.pushed (c.in_ok-push.ensures.counted
          ∙ ap (λ n. widened n (l ∷ [])) (c.loop-word.invariant.counted v h)
          ∙ sym (widened-append v c.loop-word.list.items (l ∷ [])));
      shorter = omega (arith, ap length c.in-Some.ensures, c.loop-word.invariant.shorter);
    }

pub returns-clause-read : goal.returns-clause-read
returns-clause-read c =
    sym c.loop-word.invariant.read
    ∙ literals_end c.args.limit c.loop-word.list.items c.loop-word.words c.in_default.ensures.0
