use Rattle.ising_form.proofs.Common.{◌≡◌, ℕ, false, length, take, slice_index_or, is_chained}
use Rattle.ising_form.proofs.chained.marked.Given as goal

-- the qubits of the chains so far are marked
abbrev pub invariant-loop-node : goal.invariant-loop-node
invariant-loop-node l = record {
  length : length l.marks.items ≡ l.nodes;
  marked : (q : ℕ) → slice_index_or l.marks.items q false ≡ is_chained (take l.node l.chains) q;
}
