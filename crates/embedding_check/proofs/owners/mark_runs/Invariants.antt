use Rattle.embedding_check.proofs.Common.{◌≡◌, ℕ, ◌+◌, ◌<◌, ◌≤◌, length, get_or, owner_of, IsRun}
use Rattle.embedding_check.proofs.owners.mark_runs.Given as goal

-- the runs of the last qubits are marked, and the last one of them is not ended yet
abbrev pub invariant-loop-done : goal.invariant-loop-done
invariant-loop-done l = record {
  len : length l.runs ≡ length l.fn.runs;
  marked : (b : ℕ) → b < length l.owners → length l.owners ≤ b + l.done
      → IsRun l.owners b (get_or l.runs b 0);
  within : l.end ≤ length l.owners;
  reached : length l.owners ≤ l.end + l.done;
  same : (b c : ℕ) → b + l.done ≡ length l.owners → b ≤ c → c < l.end
      → owner_of l.owners c ≡ owner_of l.owners b;
}
