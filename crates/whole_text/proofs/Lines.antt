-- The lines of a text, from left to right.
use Rattle.whole_text.proofs.Common.{nat_tests, ◌≡◌, ℕ, ◌+◌, ◌<◌, ◌≤◌, List, [], ◌∷◌, ◌++◌, length, drop, arith, append_assoc, slice_range, slice_split, position_or_len, not-true, drop-drop, length-drop, take_all, append-nil, prefix_len_passes, slice_split_first, slice_split_none, Style, Word, is_feed, tokens_of_line, tokens_from}

-- the lines from a place on
abbrev pub lines_from : List ℕ → ℕ → List (List ℕ)
lines_from text start = slice_split is_feed (drop start text)

-- a line that a line feed ends, and the lines after it
pub line_cut : (text : List ℕ) (start n : ℕ) → n ≡ position_or_len is_feed (drop start text) → start + n < length text
    → lines_from text start ≡ slice_range text start (start + n) ∷ lines_from text (start + n + 1)
line_cut text start n e lt = grind (arith, nat_tests, length-drop, slice_split_first, drop-drop)

-- the last line, which no line feed ends
pub line_last : (text : List ℕ) (start n : ℕ) → start ≤ length text → n ≡ position_or_len is_feed (drop start text) → start + n ≡ length text
    → lines_from text start ≡ slice_range text start (start + n) ∷ []
line_last text start n le e end =
    grind (arith, nat_tests, length-drop, slice_split_none, not-true, prefix_len_passes, take_all)

-- one more line is cut
pub line_taken : (style : Style) (n : ℕ) (line : List ℕ) (before after : List (List ℕ)) (was now : List Word) → before ≡ line ∷ after → now ≡ was ++ tokens_of_line style n line
    → now ++ tokens_from style (n + 1) after ≡ was ++ tokens_from style n before
unfolding tokens_from
line_taken style n line before after was now e p = grind (arith, nat_tests, append_assoc)

-- the last line is cut
pub line_ended : (style : Style) (n : ℕ) (line : List ℕ) (before : List (List ℕ)) (was now : List Word) → before ≡ line ∷ [] → now ≡ was ++ tokens_of_line style n line
    → now ≡ was ++ tokens_from style n before
unfolding tokens_from
line_ended style n line before was now e p = grind (arith, nat_tests, append-nil)
