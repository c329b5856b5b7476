use Rattle.wcnf_reader.proofs.Common.{nat_tests, ◌<◌, ◌∷◌, [], length, ap, arith, All-append, All-cons, All-nil, err_from_is_err_and, Literal, word_of, literals_read, bound_of}
use Rattle.wcnf_reader.proofs.Loops.{literal_goes_on, literals_stop, literals_fail, literals_end}
use Rattle.wcnf_reader.proofs.listed.literals.Goals as goal

pub returns-in_err-literal-clause-read : goal.returns-in_err-literal-clause-read
returns-in_err-literal-clause-read c = grind (arith, nat_tests, err_from_is_err_and, literals_fail)

pub loop-word-preserved : goal.loop-word-preserved
loop-word-preserved c =
    let variables = c.args.variables in
    let l : Literal = c.in-Some-2.literal in
    let before = rw c.in-Some.ensures at c.loop-word.invariant.read in
    let read = rw c.in-Some-2.is at c.in_ok-literal.ensures.read in
    let within = rw c.in-Some-2.is at c.in_ok-literal.ensures.within in
    record {
      read = rw c.in_ok-push-in-Some-2.ensures.items
          (literal_goes_on variables c.args.end c.loop-word.list.items (word_of c.in-Some.word)
          c.next.new.self l (literals_read variables c.args.end c.args.words.now) read before);
      within = rw c.in_ok-push-in-Some-2.ensures.items
          (All-append (λ k. k.variable < bound_of variables) c.loop-word.list.items (l ∷ [])
          c.loop-word.invariant.within
          (All-cons (λ k. k.variable < bound_of variables) l [] within (All-nil _)));
      shorter = omega (arith, ap length c.in-Some.ensures, c.loop-word.invariant.shorter);
    }

pub returns-in-None-clause-read : goal.returns-in-None-clause-read
returns-in-None-clause-read c = grind (arith, nat_tests, literals_stop)

pub returns-clause-read : goal.returns-clause-read
returns-clause-read c = grind (arith, nat_tests, literals_end)
