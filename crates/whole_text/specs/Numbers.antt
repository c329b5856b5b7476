-- Numbers as a text writes them: an optional sign, digits, and optionally a point and zeros.
use Rattle.std.specs.Prelude.{ℕ, ℤ, pos, neg_ℤ, ◌^◌, Bool, ◌&&◌, List, [], ◌∷◌, Option, Some, None, ◌==◌, nat_lt, length, if◌then◌else◌}
use Rattle.std.specs.List.{before_first, after_first, list_all}
use Rattle.std.specs.Option.{option_map}
use Rattle.std.specs.Char.{is_ascii_digit}
use Rattle.std.specs.Str.Parse.{digits_value}

-- `.`
abbrev pub is_point : ℕ → Bool
is_point c = c == 46

-- `0`
abbrev pub is_zero : ℕ → Bool
is_zero c = c == 48

-- one or more ASCII digits
abbrev pub are_digits : List ℕ → Bool
are_digits bytes = nat_lt 0 (length bytes) && list_all is_ascii_digit bytes

-- the value of one or more digits, where it is below 2 ^ 64
unfoldable pub digits_number : List ℕ → Option ℕ
digits_number bytes =
    if are_digits bytes && nat_lt (digits_value 10 bytes) (2 ^ 64) then Some (digits_value 10 bytes)
    else None

-- the size of a number without its sign: digits, and optionally a point and any count of zeros
unfoldable pub size_of : List ℕ → Option ℕ
size_of text =
    if list_all is_zero (after_first is_point text) then digits_number (before_first is_point text)
    else None

-- the value of a number: its size, negated after a `-` (45) and not after a `+` (43)
unfoldable pub number_of : List ℕ → Option ℤ
number_of [] = None
number_of (c ∷ cs) =
    if c == 43 then option_map pos (size_of cs)
    else (if c == 45 then option_map (λ n. neg_ℤ (pos n)) (size_of cs)
    else option_map pos (size_of (c ∷ cs)))
