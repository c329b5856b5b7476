use Rattle.rosenberg_layer.proofs.Common.{◌≡◌, ◌+◌, ◌*◌, length, get_or, keys_left, Wait}
use Rattle.rosenberg_layer.proofs.Under.{IsUnder}
use Rattle.rosenberg_layer.proofs.replacing.substitute.Given as goal

-- the terms whose keys were taken off are replaced, and all others wait
abbrev pub invariant-loop-term : goal.invariant-loop-term
invariant-loop-term l = record {
  wait : Wait l.long l.waiting;
  lists : length l.waiting.buckets.lists ≡ 2 * (l.number + 1);
  under : IsUnder l.fn.long (get_or l.fn.waiting.keys.items l.fn.waiting.at 0) l.number l.fn.low.items l.long
      l.low.items l.weight l.waiting.cursor (keys_left l.waiting);
}

abbrev pub decreases-loop-term : goal.decreases-loop-term
decreases-loop-term l = length (keys_left l.waiting)
