-- The words from an index on, as texts.
use Rattle.command_words.proofs.Common.{nat_tests, ◌≡◌, ◌<◌, ◌-◌, ℕ, List, [], map, drop, take, length, String, string_bytes, sym, ◌∙◌, ap, arith, drop-map, drop_all, take_all, length-drop}

pub texts_from : {A : Type 0} (i : ℕ) (words : List (String A))
    → map string_bytes (take (length words - i) (drop i words)) ≡ drop i (map string_bytes words)
texts_from i words = grind (arith, nat_tests, take_all, length-drop, drop-map)

pub texts_beyond : {A : Type 0} (i : ℕ) (words : List (String A)) → length words < i
    → [] ≡ drop i (map string_bytes words)
texts_beyond {A} i words beyond =
    sym (drop-map string_bytes i words ∙ ap (λ (left : List (String A)). map string_bytes left)
    (drop_all i words (omega (arith, beyond))))
