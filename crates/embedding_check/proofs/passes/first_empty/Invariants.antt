use Rattle.embedding_check.proofs.Common.{◌≢◌, ℕ, ◌<◌, [], chain_of}
use Rattle.embedding_check.proofs.passes.first_empty.Given as goal

abbrev pub invariant-loop-node : goal.invariant-loop-node
invariant-loop-node l = (u : ℕ) → u < l.node → chain_of l.map u ≢ []
