-- The tokens of lines: a line of words that is no comment has its words as tokens.
use Rattle.whole_text.proofs.Common.{nat_tests, ◌≡◌, ℕ, ◌+◌, ◌<◌, false, cond, List, [], ◌∷◌, ◌++◌, length, map, refl, arith, append_assoc, filter, AllByRecursion, flat_map, join_with_byte, slice_split, All-from_recursion, slice_split_at, slice_split_none, Word, word, is_blank, is_feed, is_filled, words, begins_with, is_comment, tokens_of_line, tokens_from}
use Rattle.whole_text.specs.declared.token.Style.TheVariants.{Plain}
use Rattle.whole_text.proofs.LineWords.{kept_first}
use Rattle.whole_text.proofs.Pieces.{plain_line}

-- ---- words that stand for themselves

-- no byte of it is a blank
abbrev pub LacksBlanks : List ℕ → Type 0
LacksBlanks bs = AllByRecursion (λ b. is_blank b ≡ false) bs

-- no byte of it is a line feed
abbrev pub LacksFeeds : List ℕ → Type 0
LacksFeeds bs = AllByRecursion (λ b. is_feed b ≡ false) bs

-- bytes that are one word of a line
pub record IsInk (bs : List ℕ) : Type 0 where
  pub filled : 0 < length bs
  pub blank : LacksBlanks bs
  pub feed : LacksFeeds bs

abbrev pub AreInk : List (List ℕ) → Type 0
AreInk ws = AllByRecursion IsInk ws

pub all_append : {X : Type 0} (P : X → Type 0) (xs ys : List X) → AllByRecursion P xs
    → AllByRecursion P ys → AllByRecursion P (xs ++ ys)
all_append P [] ys h k = k
all_append P (x ∷ xs) ys h k = (h.0, all_append P xs ys h.1 k)

-- ---- the words of a line

split_ink : (w : List ℕ) (ws : List (List ℕ)) → AreInk (w ∷ ws)
    → slice_split is_blank (join_with_byte 32 (w ∷ ws)) ≡ w ∷ ws
split_ink w [] h = grind (arith, nat_tests, slice_split_none, All-from_recursion)
split_ink w (v ∷ vs) h =
    grind (arith, nat_tests, slice_split_at, All-from_recursion, split_ink v vs h.1)

all_kept : (ws : List (List ℕ)) → AreInk ws → filter is_filled ws ≡ ws
all_kept [] h = refl
all_kept (w ∷ ws) h = grind (arith, nat_tests, kept_first, all_kept ws h.1)

words_joined : (w : List ℕ) (ws : List (List ℕ)) → AreInk (w ∷ ws)
    → words (join_with_byte 32 (w ∷ ws)) ≡ w ∷ ws
unfolding words
words_joined w ws h = grind (arith, nat_tests, split_ink, all_kept)

-- ---- the tokens of a line

-- the words of a line, each with the line's number, but none of a comment
abbrev pub shown : ℕ → List (List ℕ) → List Word
shown n ws = cond (begins_with 99 ws) [] (map (word n) ws)

line_again : (n : ℕ) (w : List ℕ) (ws : List (List ℕ)) → AreInk (w ∷ ws)
    → begins_with 99 (w ∷ ws) ≡ false
    → tokens_of_line Plain n (join_with_byte 32 (w ∷ ws)) ≡ map (word n) (w ∷ ws)
unfolding is_comment
line_again n w ws h other = grind (arith, nat_tests, plain_line, words_joined)

-- ---- the lines of a text

-- the text of a line: its words, separated by one space (32) and ended by a line feed (10)
abbrev line : List (List ℕ) → List ℕ
line ws = join_with_byte 32 ws ++ 10 ∷ []

-- the tokens of lines that are numbered from n on
abbrev pub tokens_after : ℕ → List (List (List ℕ)) → List Word
tokens_after n lines = tokens_from Plain n (slice_split is_feed (flat_map line lines))

-- a line, and the bytes after it
pub line_then : (n : ℕ) (bytes rest : List ℕ) → LacksFeeds bytes
    → tokens_from Plain n (slice_split is_feed ((bytes ++ 10 ∷ []) ++ rest))
    ≡ tokens_of_line Plain n bytes ++ tokens_from Plain (n + 1) (slice_split is_feed rest)
unfolding tokens_from
line_then n bytes rest h =
    rw (append_assoc bytes (10 ∷ []) rest, slice_split_at is_feed bytes 10 rest (All-from_recursion (λ b. is_feed b ≡ false) bytes h) refl) refl

pub no_lines : (n : ℕ) → tokens_after n [] ≡ []
unfolding tokens_from tokens_of_line is_comment words
no_lines n = refl

-- words without line feeds are a line without any
pub joined_lacks : (w : List ℕ) (ws : List (List ℕ)) → AllByRecursion LacksFeeds (w ∷ ws)
    → LacksFeeds (join_with_byte 32 (w ∷ ws))
joined_lacks w [] h = h.0
joined_lacks w (v ∷ vs) h = grind (arith, nat_tests, joined_lacks v vs h.1, all_append)

ink_lacks : (ws : List (List ℕ)) → AreInk ws → AllByRecursion LacksFeeds ws
ink_lacks [] h = tt
ink_lacks (w ∷ ws) h = (h.0.feed, ink_lacks ws h.1)

-- a line of words, and the lines after it
pub words_then : (n : ℕ) (w : List ℕ) (ws : List (List ℕ)) (lines : List (List (List ℕ)))
    → AreInk (w ∷ ws) → begins_with 99 (w ∷ ws) ≡ false
    → tokens_after n ((w ∷ ws) ∷ lines) ≡ map (word n) (w ∷ ws) ++ tokens_after (n + 1) lines
words_then n w ws lines h other =
    grind (arith, nat_tests, line_then, joined_lacks, ink_lacks, line_again)
