use Rattle.whole_text.proofs.Common.{◌-◌, ◌≡◌, ◌<◌, ◌≤◌, ◌++◌, false, map, get_or, slice_range, is_blank, pieces_of_line, tokens_of_line, word, word_at, All, AreInOrder, IsOnItsLine, IsOnLine}
use Rattle.whole_text.proofs.cutting.push_line.Given as goal

abbrev pub invariant-loop-at : goal.invariant-loop-at
invariant-loop-at l = record {
  low : l.start ≤ l.at;
  high : l.at ≤ l.end;
  ink : l.at < l.end → is_blank (get_or l.text l.at 0) ≡ false;
  cut : map (word_at l.text) l.tokens.items ++ map (word l.line) (pieces_of_line l.style (slice_range l.text l.at l.end)) ≡ map (word_at l.text) l.fn.tokens.items ++ tokens_of_line l.style l.line (slice_range l.text l.start l.end);
  in_order : AreInOrder 0 l.fn.tokens.items l.start → AreInOrder 0 l.tokens.items l.at;
  lines : IsOnLine l.text l.start l.end l.line → All (IsOnItsLine l.text) l.fn.tokens.items → All (IsOnItsLine l.text) l.tokens.items;
}

abbrev pub decreases-loop-at : goal.decreases-loop-at
decreases-loop-at l = l.end - l.at
