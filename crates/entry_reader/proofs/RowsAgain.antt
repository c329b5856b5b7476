-- A text of rows is cut into the words of its rows, and its comments into none.
use Rattle.entry_reader.proofs.Common.{nat_tests, arith, ◌≡◌, ℕ, ◌+◌, List, [], ◌∷◌, ◌++◌, refl, codes, AllByRecursion, words, is_comment, tokens_of_line, LacksFeeds, joined_lacks, line_then, tokens_after, plain_line, Row, IsWord, IsRow, AreRows}
use Rattle.whole_text.specs.declared.token.Style.TheVariants.{Plain}

comment_line : (n : ℕ) (rest : List ℕ) → tokens_of_line Plain n (99 ∷ 32 ∷ rest) ≡ []
unfolding is_comment words
comment_line n rest = grind (arith, nat_tests, plain_line n (99 ∷ 32 ∷ rest))

words_lack : (ws : Row) → AllByRecursion IsWord ws → AllByRecursion LacksFeeds ws
words_lack [] h = tt
words_lack (w ∷ ws) h = (h.0.feed, words_lack ws h.1)

-- the first of its words is `c`, and there is another
abbrev pub IsComment : Row → Type 0
IsComment [] = ⊥
IsComment (w ∷ []) = ⊥
IsComment (w ∷ v ∷ ws) = w ≡ codes "c"

comment_then : (n : ℕ) (row : Row) (rows : List Row) → IsComment row → IsRow row
    → tokens_after n (row ∷ rows) ≡ tokens_after (n + 1) rows
comment_then n row rows c h =
    grind (arith, nat_tests, line_then, joined_lacks, words_lack, tokens_after, comment_line)

-- comments before other rows only move the lines
pub comments_skipped : (n : ℕ) (comments rows : List Row) → AllByRecursion IsComment comments
    → AreRows comments → (k : ℕ) × (tokens_after n (comments ++ rows) ≡ tokens_after k rows)
comments_skipped n [] rows c h = (n, refl)
comments_skipped n (row ∷ comments) rows c h =
    grind (arith, nat_tests, comments_skipped (n + 1) comments rows c.1 h.1, comment_then)
