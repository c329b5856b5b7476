-- The text of a number is a word, and tells the number.
use Rattle.model_text.proofs.Common.{nat_tests, ints, ◌≡◌, ℕ, zero, suc, ◌/◌, ◌^◌, ◌<◌, ◌≤◌, false, ℤ, List, [], ◌∷◌, arith, unsigned_abs, w128, FitsSigned, decimal, signed_decimal, digits, digits_onto, decimal_is_IsNumeral_wide}
use Rattle.model_text.proofs.RowTexts.{Lacks, IsWord, no_such_byte}

-- no digit is below 48
digits_lack : (c k n : ℕ) (bs : List ℕ) → c < 48 → Lacks c bs
    → Lacks c (digits_onto k 10 false n bs)
digits_lack c zero n bs small h = h
digits_lack c (suc k) n bs small h = grind (arith, nat_tests, digits_lack c k (n / 10))

decimal_lacks : (c n : ℕ) → c < 48 → Lacks c (decimal n)
unfolding digits
decimal_lacks c n small = digits_lack c 64 n [] small tt

pub decimal_word : (n : ℕ) → IsWord (decimal n)
decimal_word n = record {
  space = decimal_lacks 32 n (omega arith);
  feed = decimal_lacks 10 n (omega arith);
}

pub signed_word : (z : ℤ) → IsWord (signed_decimal z)
signed_word z = grind (arith, nat_tests, ints, decimal_word, decimal_lacks)

-- a text has at most 64 digits, so it tells a number that has no more
pub decimal_same : (m n : ℕ) → m < 10 ^ 64 → n < 10 ^ 64 → decimal m ≡ decimal n → m ≡ n
decimal_same m n h k e =
    grind (arith, nat_tests, decimal_is_IsNumeral_wide m h, decimal_is_IsNumeral_wide n k)

no_minus : (m n : ℕ) → decimal m ≡ 45 ∷ decimal n → ⊥
no_minus m n e = no_such_byte 45 [] (decimal m) (decimal n) (decimal_lacks 45 m (omega arith)) e

pub signed_same : (y z : ℤ) → unsigned_abs y < 10 ^ 64 → unsigned_abs z < 10 ^ 64
    → signed_decimal y ≡ signed_decimal z → y ≡ z
signed_same y z h k e = grind (arith, nat_tests, ints, decimal_same, no_minus)

-- the numbers of 128 bits
pub size_fits : (z : ℤ) → FitsSigned w128 z → unsigned_abs z ≤ 2 ^ 127
size_fits z h = grind (arith, nat_tests, ints)
