-- How many tokens there are, and how many are left.
use Rattle.whole_text.proofs.Common.{nat_tests, ◌≡◌, ℕ, ◌<◌, ◌≤◌, List, length, Ok, arith, length-map, Word, TokenText, words_of, next_of}
use Rattle.whole_text.proofs.Strides.{length-joined}

pub next_less : (end : ℕ) (ws rest : List Word) (w : Word) → next_of end ws ≡ Ok (w, rest)
    → length rest < length ws
next_less end ws rest w h = grind (arith, nat_tests)

-- a text has at most as many words as bytes
pub few_words : (text : TokenText) → length (words_of text) ≤ length text.bytes
few_words text = grind (arith, nat_tests, length-map, length-joined)
