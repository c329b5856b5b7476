-- Slack bits, one by one.
use Rattle.penalty_layer.proofs.Common.{nat_tests, ◌≡◌, ℕ, zero, suc, ◌+◌, ◌-◌, ◌*◌, ◌/◌, ◌%◌, ◌^◌, ◌<◌, ◌≤◌, nat_eq, Bool, sym, subst, arith, List, [], ◌∷◌, ◌++◌, append_assoc, pos, neg_ℤ, pow-le-pow_right, binary_digits, Term, doubled, digit_bits, node, slack_terms, HasDigits, HasDigits-binary_digits, inl, inr, cases_lt}

power_next : (m : ℕ) → 2 ^ suc m ≡ 2 * 2 ^ m
power_next m = omega arith

pub power_more : (i : ℕ) → 2 ^ (i + 1) ≡ 2 ^ i * 2
power_more i = let e : i + 1 ≡ suc i = omega arith in rw e (omega (arith, power_next i))

raised : (i j : ℕ) → i ≤ j → 2 ^ i ≤ 2 ^ j
raised i j h = pow-le-pow_right {n = 2} (omega arith) h

pub power_small : (i : ℕ) → i < 127 → 2 ^ i ≤ 2 ^ 126
power_small i h = raised i 126 (omega arith)

-- ---- how many digits there are

-- a small range has few digits
pub few_digits : (r w : ℕ) → w ≡ binary_digits r → r < 2 ^ 100 → w ≤ 100
few_digits r w e small = go w (subst (HasDigits r) (sym e) (HasDigits-binary_digits r))
  where
    go : (n : ℕ) → HasDigits r n → n ≤ 100
    go zero h = omega arith
    go (suc m) h =
        elim (cases_lt m 100) [
          | inl few ↦ omega (arith, few)
          | inr many ↦ absurd (omega (arith, h.0, small, raised 100 m many))
        ]

-- ---- steps of loops

pub push_digit : (now new all : List Bool) (count i rest : ℕ) (last : Bool) → i < count
    → new ≡ now ++ nat_eq (rest % 2) 1 ∷ [] → now ++ digit_bits (count - i) rest last ≡ all
    → new ++ digit_bits (count - (i + 1)) (rest / 2) last ≡ all
push_digit now new all count i rest last inside pushed whole =
    let e : count - i ≡ suc (count - (i + 1)) = omega arith in
    let before = rw e at whole in
    grind (arith, nat_tests, append_assoc)

pub push_weight : (now new all : List Term) (count i number weight last : ℕ) → i < count
    → new ≡ now ++ (node number ∷ [], neg_ℤ (pos weight)) ∷ []
    → now ++ slack_terms number (doubled weight (count - i) last) ≡ all
    → new ++ slack_terms (number + 1) (doubled (weight * 2) (count - (i + 1)) last) ≡ all
push_weight now new all count i number weight last inside pushed whole =
    let e : count - i ≡ suc (count - (i + 1)) = omega arith in
    let before = rw e at whole in
    let place : number + 1 ≡ suc number = omega arith in
    let twice : weight * 2 ≡ 2 * weight = omega arith in
    rw (pushed, place, twice, append_assoc) before
