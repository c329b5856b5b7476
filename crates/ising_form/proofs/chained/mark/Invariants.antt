use Rattle.ising_form.proofs.Common.{◌≡◌, ℕ, ◌||◌, false, length, take, slice_index_or, is_in}
use Rattle.ising_form.proofs.chained.mark.Given as goal

-- the qubits so far are marked
abbrev pub invariant-loop-qubit : goal.invariant-loop-qubit
invariant-loop-qubit l = record {
  length : length l.marks ≡ length l.initial.marks;
  marked : (q : ℕ) → slice_index_or l.marks q false
      ≡ (slice_index_or l.initial.marks q false || is_in (take l.qubit-index l.chain) q);
}
