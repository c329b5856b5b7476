use Rattle.rosenberg_layer.proofs.Common.{◌≡◌, pairs_of, run, long_part}
use Rattle.rosenberg_layer.proofs.pairs.wide_pairs.Given as goal

-- the long terms after the turns so far, and their pairs
abbrev pub invariant-loop-done : goal.invariant-loop-done
invariant-loop-done l = record {
  long : l.long.content ≡ long_part (run l._done l.table.content);
  pairs : l.pairs.items ≡ pairs_of l._done l.table.content;
}
