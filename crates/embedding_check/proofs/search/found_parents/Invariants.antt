use Rattle.embedding_check.proofs.Common.{ℕ, ◌-◌, ◌<◌, take, drop, AllZip, IsReached, IsParent, Joins, qubit_at, IsSearched}
use Rattle.embedding_check.proofs.search.found_parents.Given as goal

-- the parents so far, and that all qubits so far are reached
abbrev pub invariant-loop-i : goal.invariant-loop-i
invariant-loop-i l = (joined : Joins) → IsSearched joined l.chain l.sorted l.search → record {
  parents : AllZip (IsParent joined l.chain) (take (l.i - 1) (drop 1 l.chain)) l.parents.items;
  reached : (j : ℕ) → j < l.i → IsReached joined l.chain (qubit_at l.chain j);
}
