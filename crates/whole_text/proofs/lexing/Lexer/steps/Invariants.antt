use Rattle.whole_text.proofs.Common.{◌≡◌, ◌++◌, List, ℕ, length, StandsFor}
use Rattle.whole_text.proofs.lexing.Lexer.steps.Given as goal

-- each text that the lexer stood for is followed by the bytes in front of the rest
abbrev pub invariant-loop-rest : goal.invariant-loop-rest
invariant-loop-rest l = record {
  front : List ℕ;
  split : front ++ l.rest ≡ l.piece;
  stands : (text : List ℕ) → StandsFor l.fn.self text → StandsFor l.self (text ++ front);
  style : l.self.style ≡ l.fn.self.style;
}

abbrev pub decreases-loop-rest : goal.decreases-loop-rest
decreases-loop-rest l = length l.rest
