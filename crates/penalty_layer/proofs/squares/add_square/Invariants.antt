use Rattle.penalty_layer.proofs.Common.{◌*◌, ◌≤◌, ◌^◌, drop, terms_total, square_terms, Rest}
use Rattle.penalty_layer.proofs.squares.add_square.Given as goal

-- the terms so far were added, and the square of the parts that are left is small
abbrev pub invariant-loop-i : goal.invariant-loop-i
invariant-loop-i g l = record {
  rest : Rest g.T.Gather.takes g.T.Gather.holds l.fn.terms l.terms (square_terms l.factor (drop l.i l.parts))
      (square_terms l.factor l.parts);
  small : l.factor * terms_total (drop l.i l.parts) ^ 2 ≤ 2 ^ 97;
}
