use Rattle.posiform_check.proofs.Common.{◌≡◌, ◌+◌, ◌*◌, ◌^◌, ◌<◌, All, length, left, IsLine, certificate_total, AreOfNodes, reading_of_words, lines_put}
use Rattle.posiform_check.proofs.reading.read_lines.Given as goal

-- the certificate so far, with the lines that are left, is that of all; and each took a word at
-- least, and added less than 2 ^ 64 to its numbers
abbrev pub invariant-loop-next : goal.invariant-loop-next
invariant-loop-next l = record {
  read : lines_put l.nodes (record { bound = l.bound; lines = l.lines }) (left l.next l.words)
      ≡ reading_of_words l.nodes l.fn.words;
  lines : All IsLine l.lines;
  small : certificate_total (record { bound = l.bound; lines = l.lines })
      + length (left l.next l.words) * 2 ^ 64 < 2 ^ 100;
  nodes : AreOfNodes l.nodes (record { bound = l.bound; lines = l.lines });
}

abbrev pub decreases-loop-next : goal.decreases-loop-next
decreases-loop-next l = length (left l.next l.words)
