use Rattle.posiform_check.proofs.Common.{◌≡◌, ◌<◌, ◌++◌, ◌∷◌, [], length, true, false, sym, ap, ◌∙◌, arith, rules, ◌==◌, err_from_is_err_and, All-push, word_of, Literal, literals_read}
use Rattle.posiform_check.proofs.ReadSteps.{literal_goes_on, literal_fails, literals_stop, literals_end}
use Rattle.posiform_check.proofs.listed.literals.Goals as goal

pub returns-then-word-line-clause-read : goal.returns-then-word-line-clause-read
returns-then-word-line-clause-read c =
    let w = word_of c.in-Some.word in
    let before = rw c.in-Some.ensures at c.loop-word.invariant.read in
    let past : (w.line == c.args.line) ≡ false = search rules in
    sym before
    ∙ literals_stop c.args.nodes c.args.line c.loop-word.list.items w c.next.new.self past

pub returns-in_err-literal-clause-read : goal.returns-in_err-literal-clause-read
returns-in_err-literal-clause-read c =
    let w = word_of c.in-Some.word in
    let before = rw c.in-Some.ensures at c.loop-word.invariant.read in
    let here : (w.line == c.args.line) ≡ true = search rules in
    let p = err_from_is_err_and c.from_residual.result c.from_residual.ensures.1 in
    rw (p.1, p.2) (sym before ∙ literal_fails _ _ _ _ _ _ here (sym c.in_err-literal.ensures.value))

pub loop-word-preserved : goal.loop-word-preserved
loop-word-preserved c =
    let w = word_of c.in-Some.word in
    let l : Literal = c.in_ok-literal.field-0 in
    let list = c.loop-word.list.items in
    let before = rw c.in-Some.ensures at c.loop-word.invariant.read in
    let here : (w.line == c.args.line) ≡ true = search rules in
    let pushed : c.push.new.self.items ≡ list ++ l ∷ [] = c.in_ok-push.ensures.items in
    record {
      read = ap (λ ls. literals_read c.args.nodes c.args.line ls c.next.new.self) pushed
          ∙ literal_goes_on c.args.nodes c.args.line list w c.next.new.self l here
          (sym c.in_ok-literal.ensures.value) ∙ before;
      within = rw pushed
          (All-push (λ (k : Literal). k.variable < c.args.nodes) list l c.loop-word.invariant.within
          c.in_ok-literal.ensures.small);
      shorter = omega (arith, ap length c.in-Some.ensures, c.loop-word.invariant.shorter);
    }

pub returns-clause-read : goal.returns-clause-read
returns-clause-read c = sym c.loop-word.invariant.read ∙ literals_end _ _ _ _ c.in_default.ensures.0
