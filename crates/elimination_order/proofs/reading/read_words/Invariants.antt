use Rattle.elimination_order.proofs.Common.{◌≡◌, [], length, AreMarks, after_front, nodes_at}
use Rattle.elimination_order.proofs.reading.read_words.Given as goal

-- the nodes so far, in front of those that the other words name, are all of them
abbrev pub invariant-loop-word : goal.invariant-loop-word
invariant-loop-word l = record {
  read : after_front l.order.items (nodes_at (length l.marks) l.order.items l.words)
      ≡ nodes_at (length l.initial.marks) [] l.initial.words;
  marks : AreMarks (length l.marks) l.marks l.order.items;
}

abbrev pub decreases-loop-word : goal.decreases-loop-word
decreases-loop-word l = length l.words
