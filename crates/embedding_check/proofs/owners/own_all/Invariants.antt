use Rattle.std.proofs.Common.{◌≡◌, length}
use Rattle.embedding_check.proofs.Owning.{OwnedBelow}
use Rattle.embedding_check.proofs.owners.own_all.Given as goal

abbrev pub invariant-loop-node : goal.invariant-loop-node
invariant-loop-node l = record {
  len : length l.owners ≡ length l.fn.owners;
  owned : OwnedBelow l.chains l.owners l.node;
}
