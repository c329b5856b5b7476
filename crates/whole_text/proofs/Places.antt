-- The first place that passes a test, or the length.
use Rattle.whole_text.proofs.Common.{nat_tests, ◌≡◌, ℕ, Bool, cond, ltb, List, length, Option, Some, None, arith, unwrap_or, position_or_len, prefix_len-le-length}

pub first_or_len : (p : ℕ → Bool) (xs : List ℕ) (o : Option ℕ) (r : ℕ) → o ≡ cond (ltb (position_or_len p xs) (length xs)) (Some (position_or_len p xs)) None → r ≡ unwrap_or o (length xs) → r ≡ position_or_len p xs
first_or_len p xs o r e u = grind (arith, nat_tests, prefix_len-le-length)
