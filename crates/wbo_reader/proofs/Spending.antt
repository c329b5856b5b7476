-- What the bits of soft constraints cost, and the constraint of the top.
use Rattle.wbo_reader.proofs.Common.{◌≡◌, ℕ, suc, ◌+◌, ◌≤◌, Bool, false, ◌||◌, List, [], ◌∷◌, Option, pos, ◌-ℤ◌, neg_ℤ, int_lt, refl, ap, arith, cond, nat_le, list_any, sum_by, ints, nat_tests, sum_by-cons, positive_part, Product, sum_of, fails, positive_total, Soft, reaches_top, weighed_bits, bit_product, UpperIsSoftWeights, at_most, top_bound, Constraint}
use Rattle.wbo_reader.proofs.Easing.{bit_of, sum_of-negated}

-- the weights of the bits from v on that are 1
abbrev pub spent : List Bool → ℕ → List Soft → ℕ
spent x v [] = 0
spent x v (s ∷ soft) = cond (bit_of x v) s.weight 0 + spent x (suc v) soft

-- the sum of all soft weights
abbrev pub weights : List Soft → ℕ
weights soft = sum_by (λ s. s.weight) soft

pub weighed_bits-sum : (x : List Bool) (v : ℕ) (soft : List Soft)
    → sum_of x (weighed_bits v soft) ≡ pos (spent x v soft)
weighed_bits-sum x v [] = refl
weighed_bits-sum x v (s ∷ soft) = grind (arith, nat_tests, weighed_bits-sum x (suc v) soft)

within_weight : (b : Bool) (w : ℕ) → cond b w 0 ≤ w
within_weight b w = grind (arith, nat_tests)

pub spent-le : (x : List Bool) (v : ℕ) (soft : List Soft) → spent x v soft ≤ weights soft
spent-le x v [] = omega arith
spent-le x v (s ∷ soft) = omega (arith, within_weight, spent-le x (suc v) soft, sum_by-cons)

-- ---- the top

-- the constraint that the weights of the bits that are 1 sum to less than the top
abbrev pub top_rows : ℕ → Option ℕ → List Soft → List Constraint
top_rows v top soft = at_most (top_bound top (weights soft)) (weighed_bits v soft)

below_top : (top spent : ℕ)
    → int_lt (neg_ℤ (pos spent)) (neg_ℤ (pos top -ℤ pos 1)) ≡ nat_le top spent
below_top top spent = grind (arith, ints, nat_tests)

above_all : (top spent sum : ℕ) → spent ≤ sum → nat_le top sum ≡ false → false ≡ nat_le top spent
above_all top spent sum le e = grind (arith, nat_tests)

or_none : (b : Bool) → (b || false) ≡ b
or_none b = grind (arith, nat_tests)

-- the constraint of the top fails where the bits cost as much, or more
pub top_rows-fail : (x : List Bool) (v : ℕ) (top : Option ℕ) (soft : List Soft)
    → list_any (fails x) (top_rows v top soft) ≡ reaches_top top (spent x v soft)
top_rows-fail x v top soft =
    grind (arith, nat_tests, sum_of-negated, weighed_bits-sum, or_none, below_top, above_all, spent-le)

-- ---- the upper bound

positive_weights : (v : ℕ) (soft : List Soft) → positive_total (weighed_bits v soft) ≡ weights soft
positive_weights v [] = refl
positive_weights v (s ∷ soft) =
    let sum = sum_by-cons (λ (t : Product). positive_part t.coefficient) (bit_product v (pos s.weight))
    (weighed_bits (suc v) soft) in
    let sum_cons = sum_by-cons (λ (k : Soft). k.weight) s soft in
    omega (arith, positive_weights (suc v) soft)

pub upper_is_soft_weights : UpperIsSoftWeights
upper_is_soft_weights s = ap pos (omega (arith, positive_weights s.variables s.soft))
