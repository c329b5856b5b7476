use Rattle.penalty_layer.proofs.Common.{◌*◌, ◌≤◌, ◌^◌, unsigned_abs, drop, terms_total, products_with, Rest}
use Rattle.penalty_layer.proofs.squares.add_row.Given as goal

-- the products so far were added, and those that are left are small
abbrev pub invariant-loop-j : goal.invariant-loop-j
invariant-loop-j g l = record {
  rest : Rest g.T.Gather.takes g.T.Gather.holds l.fn.terms l.terms
      (products_with (l.ls, l.coefficient) (drop l.j l.parts))
      (products_with (l.ls, l.coefficient) (drop l.fn.start l.parts));
  small : unsigned_abs l.coefficient * terms_total (drop l.j l.parts) ≤ 2 ^ 97;
}
