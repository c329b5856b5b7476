use Rattle.whole_text.proofs.Common.{◌≡◌, ◌+◌, ◌-◌, ◌≤◌, ◌++◌, length, map, tokens_from, tokens_of, word_at, take, All, AreInOrder, IsOnItsLine, feeds}
use Rattle.whole_text.proofs.Lines.{lines_from}
use Rattle.whole_text.proofs.cutting.tokens.Given as goal

abbrev pub invariant-loop-tokens : goal.invariant-loop-tokens
invariant-loop-tokens l = record {
  within : l.start ≤ length l.text;
  few : l.line ≤ l.start + 1;
  cut : map (word_at l.text) l.tokens.items ++ tokens_from l.style l.line (lines_from l.text l.start) ≡ tokens_of l.style l.text;
  in_order : AreInOrder 0 l.tokens.items l.start;
  number : l.line ≡ 1 + feeds (take l.start l.text);
  lines : All (IsOnItsLine l.text) l.tokens.items;
}

abbrev pub decreases-loop-tokens : goal.decreases-loop-tokens
decreases-loop-tokens l = length l.text + 1 - l.start
