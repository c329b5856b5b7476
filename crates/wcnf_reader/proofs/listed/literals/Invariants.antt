use Rattle.wcnf_reader.proofs.Common.{◌≡◌, ◌<◌, ◌≤◌, length, All, literals_read, bound_of}
use Rattle.wcnf_reader.proofs.Loops.{with_front}
use Rattle.wcnf_reader.proofs.listed.literals.Given as goal

-- the literals so far, and then those of the other words, are the literals that the words give
abbrev pub invariant-loop-word : goal.invariant-loop-word
invariant-loop-word l = record {
  read : with_front l.list.items (literals_read l.variables l.end l.words)
      ≡ literals_read l.variables l.end l.fn.words;
  within : All (λ k. k.variable < bound_of l.variables) l.list.items;
  shorter : length l.words ≤ length l.fn.words;
}

abbrev pub decreases-loop-word : goal.decreases-loop-word
decreases-loop-word l = length l.words
