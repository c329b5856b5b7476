use Rattle.whole_text.proofs.Common.{◌<◌, arith, rules, Token}
use Rattle.whole_text.proofs.Strides.{joined-push, last_line_pushed}
use Rattle.whole_text.proofs.lexing.Lexer.end_word.Goals as goal

pub invariant_of-self-then-eq : goal.invariant_of-self-then-eq
invariant_of-self-then-eq c =
    let some : c.self.inside.start < c.len-end.result = search rules in
    let t : Token = record { start = c.self.inside.start; end = c.len-end.result; line = c.self.inside.line } in
    record {
      joined = rw c.in_ok-push.ensures.pushed (joined-push 0 c.self.inside.tokens t c.self.invariant.joined some);
      from = search rules;
      below = rw c.in_ok-push.ensures.pushed (omega (arith, last_line_pushed c.self.inside.tokens t));
    }
