-- The slack weights of r reach exactly the values 0 to r. Nothing here has to be believed.
--
-- With w digits the first w - 1 weights reach 0 to 2 ^ (w - 1) - 1, and the last one moves that
-- range up to r. The two ranges meet or overlap, since the last weight is at most 2 ^ (w - 1).
use Rattle.std.specs.Prelude.{◌≡◌, ◌+◌, ◌-◌, ◌*◌, ◌/◌, ◌%◌, ◌^◌, ◌<◌, ◌≤◌, ◌∷◌, ◌++◌, ◌==◌}
use Rattle.penalty_layer.specs.laws.Common.{ℕ, zero, suc, Bool, true, false, cond, ltb, refl, ap, arith, List, [], length, get_or, binary_digits, digits_are_least, doubled, last_weight, weights_for, slack_weights, slack_value, digit_bits, bits_for, value_bits, nat_tests, cases_lt, inl, inr}

-- ---- how many digits there are

-- R lies where numbers have so many binary digits. For w digits that is from 2 ^ (w - 1) to 2 ^ w -
-- 1; 0 has none.
abbrev pub HasDigits : ℕ → ℕ → Type 0
HasDigits r zero = r ≡ 0
HasDigits r (suc m) = (2 ^ m ≤ r) × (r < 2 ^ suc m)

-- the next power is twice as much
power_next : (m : ℕ) → 2 ^ suc m ≡ 2 * 2 ^ m
power_next m = omega arith

-- a number lies where numbers have as many digits as it has
pub HasDigits-binary_digits : (r : ℕ) → HasDigits r (binary_digits r)
HasDigits-binary_digits r = go (binary_digits r) (digits_are_least r).0 (digits_are_least r).1
  where
    go : (w : ℕ) → r < 2 ^ w → 2 ^ w ≤ 2 * r + 1 → HasDigits r w
    go zero above below = omega arith
    go (suc m) above below = (omega (arith, power_next m), above)

-- ---- no value is above r

-- doubled weights from b on reach at most what their sum is
doubled-le : (y : List Bool) (first b m last : ℕ)
    → slack_value y first (doubled b m last) + b ≤ b * 2 ^ m + last
doubled-le y first b zero last = grind (arith, nat_tests)
doubled-le y first b (suc m) last =
    let rest = doubled-le y (suc first) (2 * b) m last in
    let power = ap (λ x. b * x) (power_next m) in
    grind (arith, nat_tests)

-- No state gives the slack a value above r. This is one half of reaching exactly 0 to r.
pub slack_value-le : (y : List Bool) (first r : ℕ) → slack_value y first (slack_weights r) ≤ r
slack_value-le y first r = go (binary_digits r) (HasDigits-binary_digits r)
  where
    go : (w : ℕ) → HasDigits r w → slack_value y first (weights_for r w) ≤ r
    go zero h = omega arith
    go (suc m) h = let low = h.0 in omega (arith, doubled-le y first 1 m (last_weight r m))

-- ---- each value is reached by its bits

-- from a first place on, the state has these bits
abbrev pub HasBits : List Bool → ℕ → List Bool → Type 0
HasBits y first [] = Unit {0}
HasBits y first (b ∷ bs) = (get_or y first false ≡ b) × HasBits y (suc first) bs

-- behind one bit more, bits stand one place later
pub HasBits-after : (a : Bool) (y : List Bool) (first : ℕ) (bs : List Bool) → HasBits y first bs
    → HasBits (a ∷ y) (suc first) bs
HasBits-after a y first [] h = tt
HasBits-after a y first (b ∷ bs) h = (h.0, HasBits-after a y (suc first) bs h.1)

-- a state that begins with these bits has them from place 0 on
pub HasBits-front : (bs rest : List Bool) → HasBits (bs ++ rest) 0 bs
HasBits-front [] rest = tt
HasBits-front (b ∷ bs) rest = (refl, HasBits-after b (bs ++ rest) 0 bs (HasBits-front bs rest))

-- a state has the bits that stand behind others from the length of these on
pub HasBits-middle : (xs bs rest : List Bool) → HasBits (xs ++ (bs ++ rest)) (length xs) bs
HasBits-middle [] bs rest = HasBits-front bs rest
HasBits-middle (x ∷ xs) bs rest =
    HasBits-after x (xs ++ (bs ++ rest)) (length xs) bs (HasBits-middle xs bs rest)

-- a digit of 0 or 1 counts as much as its bit
digit_times : (b d : ℕ) → d < 2 → cond (d == 1) b 0 ≡ b * d
digit_times b d h = elim (cases_lt d 1) [
  | inl none ↦ let same : d ≡ 0 = omega arith in rw same (omega arith)
  | inr one ↦ let same : d ≡ 1 = omega arith in rw same (omega arith)
]

-- a number is its lowest digit, and twice what is left
first_digit : (b v : ℕ) → cond (v % 2 == 1) b 0 + 2 * b * (v / 2) ≡ b * v
first_digit b v =
    let parts : v ≡ 2 * (v / 2) + v % 2 = omega arith in
    omega (arith, digit_times b (v % 2) (omega arith), ap (λ x. b * x) parts)

-- the digits of v give v times b, and the last bit adds its weight
doubled-reach : (y : List Bool) (first b m v last : ℕ) (t : Bool) → v < 2 ^ m
    → HasBits y first (digit_bits m v t)
    → slack_value y first (doubled b m last) ≡ b * v + cond t last 0
doubled-reach y first b zero v last t small bits =
    let none : v ≡ 0 = omega arith in
    omega (arith, ap (λ u. cond u last 0) bits.0, ap (λ x. b * x) none)
doubled-reach y first b (suc m) v last t small bits =
    omega (
      arith,
      ap (λ u. cond u b 0) bits.0,
      doubled-reach y (suc first) (2 * b) m (v / 2) last t (omega (arith, power_next m)) bits.1,
      first_digit b v,
    )

-- The slack bits of a value up to r give the slack this value. This is the other half.
pub slack_reaches : (y : List Bool) (first r v : ℕ) → v ≤ r → HasBits y first (value_bits r v)
    → slack_value y first (slack_weights r) ≡ v
slack_reaches y first r v within = go (binary_digits r) (HasDigits-binary_digits r)
  where
    go : (w : ℕ) → HasDigits r w → HasBits y first (bits_for r w v)
        → slack_value y first (weights_for r w) ≡ v
    go zero h bits = omega arith
    go (suc m) h bits =
        let low = h.0 in
        let high = h.1 in
        let power = power_next m in
        let last = last_weight r m in elim (cases_lt (2 ^ m - 1) v) [
          | inl far ↦
              let e : ltb (2 ^ m - 1) v ≡ true = grind (arith, nat_tests) in
              omega (arith, doubled-reach y first 1 m (v - last) last true (omega arith) (rw e at bits))
          | inr near ↦
              let e : ltb (2 ^ m - 1) v ≡ false = grind (arith, nat_tests) in
              omega (arith, doubled-reach y first 1 m v last false (omega arith) (rw e at bits))
        ]

-- ---- how many there are

-- one weight for each step, and the last
length-doubled : (b m last : ℕ) → length (doubled b m last) ≡ suc m
length-doubled b zero last = refl
length-doubled b (suc m) last = ap suc (length-doubled (2 * b) m last)

-- there are as many slack weights as r has binary digits
pub length-slack_weights : (r : ℕ) → length (slack_weights r) ≡ binary_digits r
length-slack_weights r = go (binary_digits r)
  where
    go : (w : ℕ) → length (weights_for r w) ≡ w
    go zero = refl
    go (suc m) = length-doubled 1 m (last_weight r m)

-- as many bits as there are weights
length-digit_bits : (m v : ℕ) (t : Bool) → length (digit_bits m v t) ≡ suc m
length-digit_bits zero v t = refl
length-digit_bits (suc m) v t = ap suc (length-digit_bits m (v / 2) t)

-- a value up to r has as many slack bits as r has binary digits
pub length-value_bits : (r v : ℕ) → length (value_bits r v) ≡ binary_digits r
length-value_bits r v = go (binary_digits r)
  where
    go : (w : ℕ) → length (bits_for r w v) ≡ w
    go zero = refl
    go (suc m) = length-digit_bits m _ _
