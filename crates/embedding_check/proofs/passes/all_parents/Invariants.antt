use Rattle.embedding_check.proofs.Common.{ℕ, ◌<◌, take, length, AllZip, chain_of, AreParents, IsReachedAt}
use Rattle.embedding_check.proofs.passes.all_parents.Given as goal

abbrev pub invariant-loop-node : goal.invariant-loop-node
invariant-loop-node g l = record {
  parents : AllZip (AreParents (g.H.Hardware.joined l.hardware)) (take l.node l.chains) l.parents;
  reached : (u : ℕ) → u < l.node → (j : ℕ) → j < length (chain_of l.chains u) → IsReachedAt (g.H.Hardware.joined l.hardware) l.chains u j;
}
