use Rattle.rosenberg_layer.proofs.Common.{◌≡◌, ◌-◌, length, Wait}
use Rattle.rosenberg_layer.proofs.waiting.Waiting.advance.Given as goal

-- all terms still wait
abbrev pub invariant-loop-self : goal.invariant-loop-self
invariant-loop-self l = record {
  wait : Wait l.terms l.self;
  lists : length l.self.buckets.lists ≡ length l.fn.self.buckets.lists;
}

abbrev pub decreases-loop-self : goal.decreases-loop-self
decreases-loop-self l = length l.self.buckets.lists - l.self.cursor
