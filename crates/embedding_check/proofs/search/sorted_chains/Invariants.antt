use Rattle.embedding_check.proofs.Common.{◌≡◌, ℕ, ◌<◌, length, chain_of, IsSortedChain}
use Rattle.embedding_check.proofs.search.sorted_chains.Given as goal

abbrev pub invariant-loop-node : goal.invariant-loop-node
invariant-loop-node l = record {
  len : length l.sorted ≡ l.node;
  sorted : (u : ℕ) → u < l.node → IsSortedChain (chain_of l.chains u) (chain_of l.sorted u);
}
