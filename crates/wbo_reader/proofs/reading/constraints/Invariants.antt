use Rattle.wbo_reader.proofs.Common.{◌≡◌, ◌+◌, ◌*◌, ◌^◌, ◌≤◌, [], length, wbo_total, constraints_read}
use Rattle.wbo_reader.proofs.reading.constraints.Given as goal

-- the source so far, with the constraints that are left, is the source of all; and each took a word
-- at least, and added less than 2 ^ 64 for each word to the numbers of the source
abbrev pub invariant-loop-first : goal.invariant-loop-first
invariant-loop-first l = record {
  read : constraints_read l.gathered l.end l.words
      ≡ constraints_read l.fn.gathered l.end l.fn.words;
  small : wbo_total l.gathered + length l.words * 2 ^ 64
      ≤ wbo_total l.fn.gathered + length l.fn.words * 2 ^ 64;
  emptied : l.list.items ≡ [];
}

abbrev pub decreases-loop-first : goal.decreases-loop-first
decreases-loop-first l = length l.words
