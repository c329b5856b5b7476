use Rattle.poly_reader.proofs.Common.{◌≡◌, ◌<◌, ◌≤◌, All, [], length, literals_read}
use Rattle.poly_reader.proofs.listed.literals.Given as goal

-- the literals so far, and then those of the other words, are the literals of the line
abbrev pub invariant-loop-word : goal.invariant-loop-word
invariant-loop-word l = record {
  read : literals_read l.line l.names l.list.items l.words
      ≡ literals_read l.line l.fn.names [] l.fn.words;
  within : All (λ k. k.variable < length l.names) l.list.items;
  wider : length l.fn.names ≤ length l.names;
  shorter : length l.words ≤ length l.fn.words;
}

abbrev pub decreases-loop-word : goal.decreases-loop-word
decreases-loop-word l = length l.words
