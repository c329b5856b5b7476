-- Nodes, each once, in any order: they are the numbers from 0 on, shuffled.
use Rattle.elimination_order.proofs.Common.{false_from_ne_true, nat_tests, ◌≡◌, ℕ, suc, ◌<◌, ◌≤◌, true, false, ◌||◌, eqb, refl, sym, ap, ◌∙◌, arith, inl, inr, List, [], ◌∷◌, length, get_or, remove, IsDistinct, list_any, range_with_len, IsPermutation, cases_eq, cases_lt, eq-eqb, false≢true, length-range_with_len, get_or-range_with_len, list_any_at, IsPermutation-refl, IsPermutation-cons, IsPermutation-sym, IsPermutation-trans, IsPermutation-remove, list_any-IsPermutation, IsDistinct-IsPermutation, IsDistinct-from_apart, All-from_recursion, IsDistinct-head, IsDistinct-tail, list_any_none}
use Rattle.elimination_order.proofs.NodesOnce.{eqb_flips}

-- a place of a number, whatever stands past the end
pub record At (v : ℕ) (xs : List ℕ) : Type 0 where
  pub at : ℕ
  pub within : at < length xs
  pub is : (d : ℕ) → get_or xs at d ≡ v

pub member_at : (v : ℕ) (xs : List ℕ) → list_any (eqb v) xs ≡ true → At v xs
member_at v [] e = absurd (false≢true e)
member_at v (x ∷ xs) e = elim (cases_eq v x) [
  | inl same ↦ record { at = 0; within = omega arith; is = λ d. sym same }
  | inr other ↦
      let f = member_at v xs (grind (arith, nat_tests)) in
      record { at = suc f.at; within = omega (arith, f.within); is = f.is }
]

distinct_head : (x : ℕ) (xs : List ℕ) → IsDistinct eqb (x ∷ xs) → list_any (eqb x) xs ≡ false
distinct_head x xs d = list_any_none (eqb x) xs (All-from_recursion _ xs (IsDistinct-head eqb x xs d))

-- the same numbers are members
abbrev AreAlike : List ℕ → List ℕ → Type 0
AreAlike xs ys = (q : ℕ) → list_any (eqb q) xs ≡ list_any (eqb q) ys

alike_rest : (x : ℕ) (xs rest : List ℕ) → AreAlike (x ∷ xs) (x ∷ rest)
    → list_any (eqb x) xs ≡ false → list_any (eqb x) rest ≡ false → AreAlike xs rest
alike_rest x xs rest alike none gone q = let at = alike q in grind (arith, nat_tests)

pub shuffled_alike : (xs ys : List ℕ) → IsDistinct eqb xs → IsDistinct eqb ys → AreAlike xs ys
    → IsPermutation xs ys
shuffled_alike [] [] d e alike = IsPermutation-refl []
shuffled_alike [] (y ∷ ys) d e alike = grind (arith, nat_tests, eq-eqb y y refl)
shuffled_alike (x ∷ xs) ys d e alike =
    let has : list_any (eqb x) ys ≡ true =
    sym (alike x) ∙ ap (λ b. b || list_any (eqb x) xs) (eq-eqb x x refl) in
    let p = member_at x ys has in
    let rest = remove ys p.at in
    let moved : IsPermutation ys (x ∷ rest) =
    IsPermutation-remove ys p.at x p.within (sym (p.is x)) in
    let apart = IsDistinct-IsPermutation eqb eqb_flips ys (x ∷ rest) moved e in
    let here : AreAlike (x ∷ xs) (x ∷ rest) =
    λ q. alike q ∙ list_any-IsPermutation (eqb q) ys (x ∷ rest) moved in
    IsPermutation-trans (x ∷ xs) (x ∷ rest) ys (IsPermutation-cons x xs rest
    (shuffled_alike xs rest (IsDistinct-tail eqb x xs d) (IsDistinct-tail eqb x rest apart)
    (alike_rest x xs rest here (distinct_head x xs d) (distinct_head x rest apart))))
    (IsPermutation-sym ys (x ∷ rest) moved)

-- ---- the numbers from 0 on

pub at_range : (n i d : ℕ) → i < n → get_or (range_with_len 0 n) i d ≡ i
at_range n i d h = grind (arith, nat_tests, get_or-range_with_len)

range_distinct : (n : ℕ) → IsDistinct eqb (range_with_len 0 n)
range_distinct n =
    IsDistinct-from_apart eqb (range_with_len 0 n) (λ i j d less within.
    let long = length-range_with_len 0 n in grind (arith, nat_tests, at_range))

-- a list of numbers below n, all of them
abbrev IsAll : ℕ → List ℕ → Type 0
IsAll n xs = (length xs ≡ n) × ((k d : ℕ) → k < n → get_or xs k d < n) × ((v : ℕ) → v < n → At v xs)

member : (n : ℕ) (xs : List ℕ) (q : ℕ) → IsAll n xs → q < n → list_any (eqb q) xs ≡ true
member n xs q all h =
    let p = all.2 q h in
    list_any_at (eqb q) xs p.at 0 p.within (ap (eqb q) (p.is 0) ∙ eq-eqb q q refl)

no_member : (n : ℕ) (xs : List ℕ) (q : ℕ) → IsAll n xs → n ≤ q → list_any (eqb q) xs ≡ false
no_member n xs q all h = false_from_ne_true _ (λ e.
    let p = member_at q xs e in
    omega (arith, h, all.1 p.at 0 (omega (arith, p.within, all.0)), p.is 0))

pub shuffled_range : (n : ℕ) (xs : List ℕ) → IsDistinct eqb xs → IsAll n xs
    → IsPermutation (range_with_len 0 n) xs
shuffled_range n xs apart all =
    let range : IsAll n (range_with_len 0 n) = (
      length-range_with_len 0 n,
      λ k d h. omega (arith, h, at_range n k d h),
      λ v h.
          record { at = v; within = omega (arith, length-range_with_len); is = λ d. at_range n v d h },
    ) in
    shuffled_alike (range_with_len 0 n) xs (range_distinct n) apart (λ q. elim (cases_lt q n) [
      | inl h ↦ member n (range_with_len 0 n) q range h ∙ sym (member n xs q all h)
      | inr h ↦ no_member n (range_with_len 0 n) q range h ∙ sym (no_member n xs q all h)
    ])
