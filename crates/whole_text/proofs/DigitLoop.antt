-- The value of digits, as a loop finds it.
use Rattle.whole_text.proofs.Common.{◌≡◌, ℕ, ◌+◌, ◌-◌, ◌*◌, ◌^◌, ◌<◌, ◌≤◌, true, false, List, [], ◌∷◌, length, take, drop, get_or, Some, None, refl, arith, add-one, is_ascii_digit, list_all, position_or_len, digits_value, nat_tests, take-append-drop, take_all, drop_all, pow-suc, pow-le-pow_right, list_all-append, list_all_more, digits_value_more, digits_value-take-le, is_point, digits_number, size_of}

-- without a digit there is no number
pub none_empty : (bs : List ℕ) → length bs ≡ 0 → None ≡ digits_number bs
unfolding digits_number
none_empty bs e = grind (arith, nat_tests)

other_bytes : (bs : List ℕ) → list_all is_ascii_digit bs ≡ false → None ≡ digits_number bs
unfolding digits_number
other_bytes bs e = grind (arith, nat_tests)

-- with a byte that is no digit there is none
pub none_at : (bs : List ℕ) (i : ℕ) → i < length bs → is_ascii_digit (get_or bs i 0) ≡ false → None ≡ digits_number bs
none_at bs i lt other =
    let front = list_all_more is_ascii_digit bs i 0 lt in
    let whole = list_all-append is_ascii_digit (take (i + 1) bs) (drop (i + 1) bs) in
    let same = take-append-drop (i + 1) bs in
    grind (arith, nat_tests, other_bytes)

too_large : (bs : List ℕ) → 2 ^ 64 ≤ digits_value 10 bs → None ≡ digits_number bs
unfolding digits_number
too_large bs le = grind (arith, nat_tests)

-- digits in front that are too large leave none, since the value only grows
pub none_from_front : (bs : List ℕ) (i : ℕ) → 2 ^ 64 ≤ digits_value 10 (take i bs) → None ≡ digits_number bs
none_from_front bs i le = grind (arith, nat_tests, too_large, digits_value-take-le)

-- one more digit of the front
pub more_value : (bs : List ℕ) (i n : ℕ) → i < length bs → is_ascii_digit (get_or bs i 0) ≡ true → n ≡ digits_value 10 (take i bs) → n * 10 + (get_or bs i 0 - 48) ≡ digits_value 10 (take (i + 1) bs)
more_value bs i n lt digit e = grind (arith, nat_tests, digits_value_more)

pub more_digits : (bs : List ℕ) (i : ℕ) → i < length bs → is_ascii_digit (get_or bs i 0) ≡ true → list_all is_ascii_digit (take i bs) ≡ true → list_all is_ascii_digit (take (i + 1) bs) ≡ true
more_digits bs i lt digit so_far = rw (list_all_more is_ascii_digit bs i 0 lt, so_far, digit) refl

-- all bytes are digits, and their value is small
pub value_is : (bs : List ℕ) (n : ℕ) → 0 < length bs → list_all is_ascii_digit bs ≡ true → n < 2 ^ 64 → n ≡ digits_value 10 bs → Some n ≡ digits_number bs
unfolding digits_number
value_is bs n some all small e = grind (arith, nat_tests)

-- ---- few digits

-- digits have no point among them
no_point : (bs : List ℕ) → list_all is_ascii_digit bs ≡ true → position_or_len is_point bs ≡ length bs
no_point [] h = refl
no_point (b ∷ bs) h = grind (arith, nat_tests, no_point bs)

-- digits alone are a number's size
pub size_plain : (bs : List ℕ) → list_all is_ascii_digit bs ≡ true → size_of bs ≡ digits_number bs
unfolding size_of
size_plain bs h = grind (arith, nat_tests, no_point, take_all, drop_all)

-- a number of i digits, and one digit more
pub pow_more : (i n d : ℕ) → n < 10 ^ i → d < 10 → n * 10 + d < 10 ^ (i + 1)
pow_more i n d small digit = grind (arith, nat_tests, add-one i, pow-suc 10 i)

-- 19 digits keep below 2 ^ 64
pub pow_few : (i : ℕ) → i ≤ 19 → 10 ^ i ≤ 10000000000000000000
pow_few i le = pow-le-pow_right {n = 10} (omega arith) le

pub digit_small : (c : ℕ) → is_ascii_digit c ≡ true → c - 48 < 10
digit_small c e = grind (arith, nat_tests)
