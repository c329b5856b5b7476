use Rattle.chain_layer.proofs.Common.{◌≡◌, ◌+◌, ◌++◌, drop, ties}
use Rattle.chain_layer.proofs.ties.push_ties.Given as goal

-- the ties so far, and those that are left
abbrev pub invariant-loop-i : goal.invariant-loop-i
invariant-loop-i l =
    l.couplings ++ ties (λ _. l.strength) (drop (l.i + 1) l.chain) (drop l.i l.parents)
    ≡ l.initial.couplings ++ ties (λ _. l.strength) (drop 1 l.chain) l.parents
