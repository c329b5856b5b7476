use Rattle.batch_costs.proofs.Common.{◌≡◌, ℕ, ◌<◌, ◌≤◌, ◌==◌, if◌then◌else◌, length, get_or, false, is_marked}
use Rattle.batch_costs.proofs.assignments.put_bits.Given as goal

-- the words so far have the assignment's bits at the place and are else as before, and so are those that are left
abbrev pub invariant-loop-i : goal.invariant-loop-i
invariant-loop-i l = record {
  width : length l.words ≡ length l.fn.words;
  done : (v : ℕ) → v < l.i → (k : ℕ) → k < 64 → is_marked (get_or l.words v 0) k
      ≡ (if k == l.place then get_or l.x v false else is_marked (get_or l.fn.words v 0) k);
  left : (v : ℕ) → l.i ≤ v → get_or l.words v 0 ≡ get_or l.fn.words v 0;
}
