use Rattle.rosenberg_layer.proofs.Common.{◌+◌, ◌≤◌, ◌^◌, drop, terms_total, Rest, ties_of}
use Rattle.rosenberg_layer.proofs.gather.add_ties.Given as goal

-- the ties so far were added, and those that are left are small
abbrev pub invariant-loop-index : goal.invariant-loop-index
invariant-loop-index g l = record {
  rest : Rest g.G.Gather.takes g.G.Gather.holds l.fn.terms l.terms
      (ties_of (l.start + l.index) (drop l.index l.pairs) (drop l.index l.weights))
      (ties_of l.start l.pairs l.weights);
  small : terms_total (ties_of (l.start + l.index) (drop l.index l.pairs) (drop l.index l.weights))
      ≤ 2 ^ 124;
}
