-- Slack bits: their weights, and the bits of a value.
--
-- A range from 0 to r gets as many bits as r has binary digits. All but the last have the weights 1,
-- 2, 4, .., and the last one has what these leave of r, so that no value is above r.
--
-- For r = 5 the weights are 1, 2 and 2. The value 4 is above 3, so its last bit is 1, and the
-- others have the digits of 4 - 2: the bits 0, 1, 1.
use Rattle.std.specs.Prelude.{ℕ, zero, suc, ◌+◌, ◌-◌, ◌*◌, ◌/◌, ◌%◌, ◌^◌, ◌==◌, nat_lt, ℤ, pos, negsuc, min, Bool, false, cond, List, [], ◌∷◌, if◌then◌else◌}
use Rattle.std.specs.List.{slice_index_or}
use Rattle.problem_form.specs.Limits.{binary_digits}

-- ---- the weights

-- B, 2b, 4b, .., m of them, and a last weight. For b = 1, m = 3 and a last weight 5 they are 1, 2,
-- 4, 5.
abbrev pub doubled : ℕ → ℕ → ℕ → List ℕ
doubled b zero last = last ∷ []
doubled b (suc m) last = b ∷ doubled (2 * b) m last

-- What m bits of the weights 1, 2, 4, .. leave of r. As m digits reach 2 ^ m - 1, the last weight
-- is what is missing from there to r: for r = 5 and m = 2 it is 2.
abbrev pub last_weight : ℕ → ℕ → ℕ
last_weight r m = r + 1 - 2 ^ m

-- so many weights, whose sum is r: for r = 0 there are none
abbrev pub weights_for : ℕ → ℕ → List ℕ
weights_for r zero = []
weights_for r (suc m) = doubled 1 m (last_weight r m)

-- the weights of the slack bits that reach 0 to r: as many as r has digits
abbrev pub slack_weights : ℕ → List ℕ
slack_weights r = weights_for r (binary_digits r)

-- The sum of the weights whose bits are 1, where the first bit has this number. It reads the bits
-- of a whole state from a place on, since the slack bits of a constraint stand after those of the
-- constraints before it.
abbrev pub slack_value : List Bool → ℕ → List ℕ → ℕ
slack_value y first [] = 0
slack_value y first (w ∷ ws) =
    cond (slice_index_or y first false) w 0 + slack_value y (suc first) ws

-- ---- the bits of a value

-- The value that is nearest to s in 0 to r. For r = 5 the number 7 gives 5, -2 gives 0, and 3 stays
-- 3.
abbrev pub clamped : ℕ → ℤ → ℕ
clamped r (pos n) = min n r
clamped r (negsuc n) = 0

-- m binary digits, the least first, and a last bit
abbrev pub digit_bits : ℕ → ℕ → Bool → List Bool
digit_bits zero v last = last ∷ []
digit_bits (suc m) v last = (v % 2 == 1) ∷ digit_bits m (v / 2) last

-- So many bits: the last one is 1 exactly where the others do not reach the value, and they then
-- have what it leaves. For r = 5 the values 4 and 5 have the last bit 1.
abbrev pub bits_for : ℕ → ℕ → ℕ → List Bool
bits_for r zero v = []
bits_for r (suc m) v =
    digit_bits m (if nat_lt (2 ^ m - 1) v then v - last_weight r m else v) (nat_lt (2 ^ m - 1) v)

-- the slack bits of a value from 0 to r
abbrev pub value_bits : ℕ → ℕ → List Bool
value_bits r v = bits_for r (binary_digits r) v
