use Rattle.chain_layer.proofs.Common.{◌≡◌, ◌++◌, length, placed}
use Rattle.chain_layer.proofs.ties.add_placed.Given as goal

-- the couplings so far, and those that are left
abbrev pub invariant-loop-entry : goal.invariant-loop-entry
invariant-loop-entry l = l.made ++ l.left ≡ l.initial.made ++ placed l.couplings l.places

-- fewer and fewer are left
abbrev pub decreases-loop-entry : goal.decreases-loop-entry
decreases-loop-entry l = length l.left
