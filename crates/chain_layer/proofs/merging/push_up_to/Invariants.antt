use Rattle.chain_layer.proofs.Common.{◌≡◌, ◌++◌, List, length, Entry, AreFrom, AreOrdered}
use Rattle.chain_layer.proofs.merging.push_up_to.Given as goal

-- those that are left are behind the others, and what is in order before them and before other
-- entries stays in order before the others
abbrev pub invariant-loop-entry : goal.invariant-loop-entry
invariant-loop-entry l = record {
  moved : l.list ++ l.left ≡ l.fn.list ++ l.fn.left;
  ordered : (later : List Entry) → AreFrom l.limit later → AreOrdered (l.fn.list ++ l.fn.left)
      → AreOrdered (l.fn.list ++ later) → AreOrdered (l.list ++ later);
}

-- fewer and fewer are left
abbrev pub decreases-loop-entry : goal.decreases-loop-entry
decreases-loop-entry l = length l.left
