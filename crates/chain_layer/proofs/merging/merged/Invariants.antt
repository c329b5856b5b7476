use Rattle.chain_layer.proofs.Common.{◌++◌, placed}
use Rattle.chain_layer.proofs.OneList.{IsMerged}
use Rattle.chain_layer.proofs.merging.merged.Given as goal

-- the list and what is left are all, and the list is in order before both lists that are left
abbrev pub invariant-loop-tie : goal.invariant-loop-tie
invariant-loop-tie l = IsMerged (l.ties ++ placed l.couplings l.places) l.list l.tie-iterator l.left
