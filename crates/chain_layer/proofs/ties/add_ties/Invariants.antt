use Rattle.chain_layer.proofs.Common.{◌≡◌, ◌++◌, flat_map, range_with_len}
use Rattle.chain_layer.proofs.Ordered.{ties_at}
use Rattle.chain_layer.proofs.ties.add_ties.Given as goal

-- the ties of the chains so far are appended
abbrev pub invariant-loop-i : goal.invariant-loop-i
invariant-loop-i l = l.made ≡ l.initial.made ++ flat_map (ties_at l.source) (range_with_len 0 l.i)
