use Rattle.part_lists.proofs.Common.{Plain, ◌≡◌, ◌+◌, ◌-◌, ◌≤◌, All, length, tokens_from, lines_from, after_front, parts_of_words, listed_parts, IsPartOf}
use Rattle.part_lists.proofs.reading.read_parts.Given as goal

-- the parts so far, in front of what the other lines name, are all of them
abbrev pub invariant-loop-parts : goal.invariant-loop-parts
invariant-loop-parts g l = record {
  within : l.start ≤ length l.text;
  few : l.line ≤ l.start + 1;
  read : after_front l.parts.items
      (parts_of_words (g.H.Hardware.exists l.host) (g.H.Hardware.joined l.host) (tokens_from Plain l.line (lines_from l.text l.start)))
      ≡ listed_parts (g.H.Hardware.exists l.host) (g.H.Hardware.joined l.host) l.text;
  kept : All (IsPartOf (g.H.Hardware.exists l.host) (g.H.Hardware.joined l.host)) l.parts.items;
}

abbrev pub decreases-loop-parts : goal.decreases-loop-parts
decreases-loop-parts g l = length l.text + 1 - l.start
