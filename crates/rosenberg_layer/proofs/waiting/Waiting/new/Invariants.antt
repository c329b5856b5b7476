use Rattle.rosenberg_layer.proofs.Common.{◌≡◌, [], length, AreWaiting}
use Rattle.rosenberg_layer.proofs.waiting.Waiting.new.Given as goal

-- the terms so far wait
abbrev pub invariant-loop-term : goal.invariant-loop-term
invariant-loop-term l = record {
  wait : AreWaiting l.terms l.term l.buckets.lists 0 [];
  room : l.buckets.room ≡ length l.terms;
  count : length l.buckets.lists ≡ l.lists;
}
