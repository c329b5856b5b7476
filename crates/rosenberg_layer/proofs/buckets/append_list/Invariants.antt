use Rattle.rosenberg_layer.proofs.Common.{◌≡◌, ◌++◌, ◌<◌, ◌-◌, length, All, chain}
use Rattle.rosenberg_layer.proofs.buckets.append_list.Given as goal

-- the terms so far, and those that are left
abbrev pub invariant-loop-done : goal.invariant-loop-done
invariant-loop-done l = record {
  whole : l.list.items ++ chain l.nexts (l._done-end - l._done) l.term
      ≡ l.initial.list.items ++ chain l.nexts l._done-end l.initial.term;
  within : All (λ t. t < length l.nexts) (chain l.nexts (l._done-end - l._done) l.term);
}
