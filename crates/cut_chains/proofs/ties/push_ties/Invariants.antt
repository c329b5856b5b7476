use Rattle.cut_chains.proofs.Common.{◌≡◌, ◌+◌, ◌++◌, drop, first_of, ties, strength_in}
use Rattle.cut_chains.proofs.ties.push_ties.Given as goal

-- the ties so far, and those that are left
abbrev pub invariant-loop-i : goal.invariant-loop-i
invariant-loop-i l =
    l.couplings ++ ties (strength_in l.sums (first_of l.chain)) (drop (l.i + 1) l.chain)
    (drop l.i l.parents) ≡ l.initial.couplings
    ++ ties (strength_in l.sums (first_of l.chain)) (drop 1 l.chain) l.parents
