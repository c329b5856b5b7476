use Rattle.rosenberg_layer.proofs.Common.{◌≡◌, ◌+◌, ◌*◌, ◌≤◌, length, filter, IsTable, TableContent, is_long, Wait}
use Rattle.rosenberg_layer.proofs.Turns.{IsRun}
use Rattle.rosenberg_layer.proofs.run.turns_of.Given as goal

-- the parts of each table with these terms after the turns so far, and their pairs; no turn adds to the
-- terms that it moves
abbrev pub invariant-loop-done : goal.invariant-loop-done
invariant-loop-done l = record {
  runs : (t : TableContent) → IsTable t → t.width ≡ l.width → filter is_long t.terms ≡ l.fn.long
      → IsRun t l._done l.width l.made.low.items (filter is_long l.long) l.made.pairs l.made.weights.items;
  wait : Wait l.long l.waiting;
  lists : length l.waiting.buckets.lists ≡ 2 * (l.width + length l.made.pairs);
  few : length l.made.low.items + length (filter is_long l.long) ≤ length l.fn.long;
  count : length l.long ≡ length l.fn.long;
  made : length l.made.pairs ≤ l._done;
}
