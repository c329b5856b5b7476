-- Numbers that are written in decimal are words, and are read again.
use Rattle.whole_text.proofs.Common.{nat_tests, ◌≡◌, ℕ, suc, ◌<◌, ◌≤◌, ◌^◌, false, ℤ, pos, negsuc, List, [], ◌∷◌, Ok, refl, arith, nat_abs, decimal, signed_decimal, AllDigits, le-leb, decimal_is_IsNumeral_wide, digit_from_value, word, is_blank, begins_with, integer_at, natural_at}
use Rattle.whole_text.proofs.NumberAgain.{number_again}
use Rattle.whole_text.proofs.LineTokens.{IsInk, LacksBlanks, LacksFeeds}

-- ---- words

no_blank : (b : ℕ) → 48 ≤ b → is_blank b ≡ false
no_blank b h = grind (arith, nat_tests)

digits_lack_blanks : (bs : List ℕ) → AllDigits 10 bs → LacksBlanks bs
digits_lack_blanks [] h = tt
digits_lack_blanks (b ∷ bs) h =
    grind (arith, nat_tests, digit_from_value, no_blank, digits_lack_blanks bs h.1)

digits_lack_feeds : (bs : List ℕ) → AllDigits 10 bs → LacksFeeds bs
digits_lack_feeds [] h = tt
digits_lack_feeds (b ∷ bs) h = grind (arith, nat_tests, digits_lack_feeds bs h.1)

pub decimal_ink : (n : ℕ) → n < 10 ^ 64 → IsInk (decimal n)
decimal_ink n small =
    let d = decimal_is_IsNumeral_wide n small in
    record {
      filled = d.0.0;
      blank = digits_lack_blanks (decimal n) d.0.1;
      feed = digits_lack_feeds (decimal n) d.0.1;
    }

pub signed_ink : (z : ℤ) → nat_abs z < 2 ^ 64 → IsInk (signed_decimal z)
signed_ink (pos n) small = decimal_ink n (omega arith)
signed_ink (negsuc n) small =
    let d = decimal_ink (suc n) (omega arith) in
    record { filled = omega arith; blank = (refl, d.blank); feed = (refl, d.feed) }

no_comment : (bs : List ℕ) (ws : List (List ℕ)) → AllDigits 10 bs → begins_with 99 (bs ∷ ws) ≡ false
no_comment bs ws h = grind (arith, nat_tests)

-- a line that begins with a number is no comment
pub number_first : (n : ℕ) (ws : List (List ℕ)) → n < 10 ^ 64
    → begins_with 99 (decimal n ∷ ws) ≡ false
number_first n ws small = no_comment (decimal n) ws ((decimal_is_IsNumeral_wide n small).0.1)

-- ---- read again

pub integer_again : (line : ℕ) (z : ℤ) → nat_abs z < 2 ^ 64
    → integer_at (word line (signed_decimal z)) ≡ Ok z
unfolding integer_at
integer_again line z small = grind (arith, nat_tests, number_again)

pub natural_again : (least line n : ℕ) → least ≤ n → n < 2 ^ 64
    → natural_at least (word line (decimal n)) ≡ Ok n
unfolding natural_at
natural_again least line n enough small =
    grind (arith, nat_tests, integer_again line (pos n) small, le-leb least n enough)
