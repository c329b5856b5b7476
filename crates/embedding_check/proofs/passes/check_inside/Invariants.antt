use Rattle.embedding_check.proofs.Common.{ℕ, ◌<◌, length, chain_of, Exists}
use Rattle.embedding_check.proofs.passes.check_inside.Given as goal

-- all numbers of the chains so far are qubits
abbrev pub invariant-loop-node : goal.invariant-loop-node
invariant-loop-node g l =
    (u : ℕ) → u < l.node → (j : ℕ) → j < length (chain_of l.map u) → Exists (g.H.Hardware.exists l.hardware) l.map u j
