use Rattle.whole_text.proofs.Common.{◌≡◌, sym, ◌∙◌, false, true, ne_eqb, is_feed, is_blank}
use Rattle.whole_text.proofs.LexerSteps.{blank_state, stands_blank}
use Rattle.whole_text.proofs.LexerFields.{stands_on}
use Rattle.whole_text.proofs.lexing.Lexer.step.Goals as goal

pub returns-then-is_blank-clause-stepped : goal.returns-then-is_blank-clause-stepped
returns-then-is_blank-clause-stepped c =
    let byte = c.args.byte in
    let feed : is_feed byte ≡ false = ne_eqb byte 10 c.if-byte-eq10.false in
    let blank : is_blank byte ≡ true = sym c.is_blank.ensures ∙ c.if-is_blank.true in
    stands_on _ c.args.self.now c.end_word.new.self (blank_state c.args.self.now) byte c.end_word.ensures.ended (λ text h. stands_blank c.args.self.now text byte feed blank h)
