-- The text of a number is read as the number: it has a `-` or none, no point, and digits that have
-- the number's size as their value.
use Rattle.whole_text.proofs.Common.{ints, ◌≡◌, ℕ, suc, ◌^◌, ◌<◌, true, ℤ, pos, negsuc, List, [], ◌∷◌, length, Some, refl, arith, nat_abs, is_ascii_digit, list_all, decimal, signed_decimal, AllDigits, digits_value, ne_eqb, nat_tests, decimal_is_IsNumeral_wide, digit_from_value, size_of, number_of}
use Rattle.whole_text.proofs.DigitLoop.{size_plain, value_is}

all_digits : (bs : List ℕ) → AllDigits 10 bs → list_all is_ascii_digit bs ≡ true
all_digits [] h = refl
all_digits (b ∷ bs) h = grind (arith, nat_tests, all_digits bs h.1)

size_again : (bs : List ℕ) (n : ℕ) → AllDigits 10 bs → 0 < length bs → digits_value 10 bs ≡ n → n < 2 ^ 64 → size_of bs ≡ Some n
size_again bs n h some value small = grind (arith, nat_tests, size_plain, value_is, all_digits)

unsigned : (bs : List ℕ) (n : ℕ) → AllDigits 10 bs → 0 < length bs → digits_value 10 bs ≡ n → n < 2 ^ 64 → number_of bs ≡ Some (pos n)
unfolding number_of
unsigned bs n h some value small = grind (arith, nat_tests, digit_from_value, ne_eqb, size_again)

minus : (n : ℕ) → suc n < 2 ^ 64 → number_of (45 ∷ decimal (suc n)) ≡ Some (negsuc n)
unfolding number_of
minus n small = grind (arith, nat_tests, decimal_is_IsNumeral_wide, size_again)

pub number_again : (z : ℤ) → nat_abs z < 2 ^ 64 → number_of (signed_decimal z) ≡ Some z
number_again z small = grind (arith, nat_tests, ints, decimal_is_IsNumeral_wide, unsigned, minus)
