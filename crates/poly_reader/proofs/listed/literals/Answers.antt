use Rattle.poly_reader.proofs.Common.{◌≡◌, ◌≤◌, ◌++◌, ◌∷◌, [], length, true, false, sym, ap, subst, ◌∙◌, arith, rules, ◌==◌, err_from_is_err_and, word_of, Literal, Named, with_name, number_of, literal_of, named_of, literals_read}
use Rattle.poly_reader.proofs.Literals.{literal_goes_on, literal_fails, literals_stop, literals_end, literals_settled}
use Rattle.poly_reader.proofs.NameNumbers.{with_name-le}
use Rattle.poly_reader.proofs.NameLists.{within_pushed}
use Rattle.poly_reader.proofs.listed.literals.Goals as goal

pub returns-then-word-line-clause-read : goal.returns-then-word-line-clause-read
returns-then-word-line-clause-read c =
    let w = word_of c.in-Some.word in
    let before = rw c.in-Some.ensures at c.loop-word.invariant.read in
    let past : (w.line == c.args.line) ≡ false = search rules in
    sym before ∙ literals_stop c.args.line c.loop-word.names c.loop-word.list.items w c.next.new.self past

pub returns-in_err-literal-clause-read : goal.returns-in_err-literal-clause-read
returns-in_err-literal-clause-read c =
    let w = word_of c.in-Some.word in
    let before = rw c.in-Some.ensures at c.loop-word.invariant.read in
    let here : (w.line == c.args.line) ≡ true = search rules in
    let p = err_from_is_err_and c.from_residual.result c.from_residual.ensures.1 in
    rw (p.1, p.2) (sym before
    ∙ literal_fails c.args.line c.loop-word.names c.loop-word.list.items w c.next.new.self
    c.in_err-literal.field-0.0 here c.in_err-literal.ensures.read)

pub loop-word-preserved : goal.loop-word-preserved
loop-word-preserved c =
    let w = word_of c.in-Some.word in
    let l : Named = named_of c.in_ok-literal.literal in
    let names = c.loop-word.names in
    let list = c.loop-word.list.items in
    let before = rw c.in-Some.ensures at c.loop-word.invariant.read in
    let here : (w.line == c.args.line) ≡ true = search rules in
    let k : Literal = record { variable = c.in_ok-number.number; negated = l.negated } in
    let added : c.number.new.self ≡ with_name names l.name = c.in_ok-number.ensures.added in
    let number : k ≡ literal_of (with_name names l.name) l =
    (λ i. record { variable = (c.in_ok-number.ensures.number ∙ ap (λ ns. number_of ns l.name) added) i; negated = l.negated }) in
    let pushed : c.push.new.self.items ≡ list ++ k ∷ [] = c.in_ok-push.ensures.items in
    let wider : length names ≤ length c.number.new.self =
    subst (λ ns. length names ≤ length ns) (sym added) (with_name-le names l.name) in
    record {
      read = literals_settled c.args.line c.number.new.self c.push.new.self.items c.settle-most.new.list.items c.next.new.self c.settle-most.ensures.same
          ∙ (λ i. literals_read c.args.line (added i) ((pushed ∙ ap (λ n. list ++ n ∷ []) number) i) c.next.new.self)
          ∙ literal_goes_on c.args.line names list w c.next.new.self l here c.in_ok-literal.ensures.read
          ∙ before;
      within = c.settle-most.ensures.within (length c.number.new.self)
          (rw pushed (within_pushed (length names) (length c.number.new.self) list k wider c.loop-word.invariant.within c.in_ok-number.ensures.within));
      wider = omega (arith, c.loop-word.invariant.wider, wider);
      shorter = omega (arith, ap length c.in-Some.ensures, c.loop-word.invariant.shorter);
    }

pub returns-clause-read : goal.returns-clause-read
returns-clause-read c =
    sym c.loop-word.invariant.read
    ∙ literals_end c.args.line c.loop-word.names c.loop-word.list.items c.loop-word.words c.in_default.ensures.0
