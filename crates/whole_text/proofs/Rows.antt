-- The first row of words: the words up to the end of its line.
use Rattle.whole_text.proofs.Common.{nat_tests, arith, ◌≡◌, List, [], ◌∷◌, refl, Word, Row, by_line, on_line, past_line}

abbrev pub row_of : Word → List Word → Row
row_of w ws = record { first = w; others = ws }

pub by_line-first : (w : Word) (ws : List Word)
    → by_line (w ∷ ws) ≡ row_of w (on_line w.line ws) ∷ by_line (past_line w.line ws)
unfolding by_line
by_line-first w [] = refl
by_line-first w (v ∷ ws) = grind (arith, nat_tests, by_line-first v ws)
