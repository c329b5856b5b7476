use Rattle.opb_reader.proofs.Common.{◌≡◌, ◌≤◌, ℕ, length, widened, literals_read}
use Rattle.opb_reader.proofs.sums.more_literals.Given as goal

-- the literals so far, and then those of the other words, are the literals that the words give
abbrev pub invariant-loop-word : goal.invariant-loop-word
invariant-loop-word l = record {
  read : literals_read l.limit l.list.items l.words
      ≡ literals_read l.limit l.fn.list.items l.fn.words;
  counted : (v : ℕ) → l.fn.variables ≡ widened v l.fn.list.items
      → l.variables ≡ widened v l.list.items;
  shorter : length l.words ≤ length l.fn.words;
}

abbrev pub decreases-loop-word : goal.decreases-loop-word
decreases-loop-word l = length l.words
