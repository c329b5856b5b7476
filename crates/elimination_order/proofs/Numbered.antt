-- The numbers of nodes, where each node has a number.
use Rattle.elimination_order.proofs.Common.{nat_tests, ◌≡◌, ℕ, suc, ◌+◌, ◌<◌, ◌≤◌, Bool, true, false, eqb, refl, sym, ap, subst, ◌∙◌, arith, List, [], or_parts, ◌∷◌, length, set, get_or-set_other, get_or-set_same, AllByRecursion, list_any, All-from_recursion, recursion_from_All, IsDistinct-cons, apart_from_distinct, length-le_from_distinct_below, AreNodes, AreNumbers, at_place}
use Rattle.elimination_order.proofs.Shuffled.{At, member_at}

absent : (v : ℕ) (xs : List ℕ) → list_any (eqb v) xs ≡ false
    → AllByRecursion (λ x. eqb v x ≡ false) xs
absent v [] e = tt
absent v (x ∷ xs) e = let n = or_parts (eqb v x) (list_any (eqb v) xs) e in (n.0, absent v xs n.1)

-- each node has a place: where one had none, there would be too many nodes
pub placed : (n : ℕ) (names : List ℕ) (v : ℕ) → AreNodes n names → v < n → At v names
placed n names v are h = go (list_any (eqb v) names) refl
  where
    more : list_any (eqb v) names ≡ false → suc (length names) ≤ n
    more none =
        let all = All-from_recursion (λ u. u < n) (v ∷ names) (h, recursion_from_All _ _ are.below) in
        length-le_from_distinct_below (v ∷ names) n
        (IsDistinct-cons eqb v names (absent v names none) are.apart)
        (λ q has. let p = member_at q (v ∷ names) has in subst (λ u. u < n) (p.is 0)
        (all p.at 0 p.within))

    go : (b : Bool) → list_any (eqb v) names ≡ b → At v names
    go true e = member_at v names e
    go false e = absurd (omega (arith, more e, are.count))

pub numbers_complete : (n : ℕ) (names numbers : List ℕ) → AreNodes n names → length numbers ≡ n
    → ((k : ℕ) → k < n → at_place numbers (at_place names k) ≡ k) → AreNumbers n names numbers
numbers_complete n names numbers are long each = record {
  count = are.count;
  counted = long;
  below = λ v h.
      let p = placed n names v are h in
      subst (λ k. k < n) (sym (number v h)) (omega (arith, p.within, are.count));
  named = λ v h. ap (at_place names) (number v h) ∙ (placed n names v are h).is 0;
  within = λ k h. are.below k 0 (omega (arith, h, are.count));
  numbered = each;
}
  where
    number : (v : ℕ) (h : v < n) → at_place numbers v ≡ (placed n names v are h).at
    number v h =
        let p = placed n names v are h in
        ap (at_place numbers) (sym (p.is 0)) ∙ each p.at (omega (arith, p.within, are.count))

-- one node more has its number
pub numbers_more : (n : ℕ) (names numbers : List ℕ) (k : ℕ) → AreNodes n names
    → length numbers ≡ n → k < n → ((j : ℕ) → j < k → at_place numbers (at_place names j) ≡ j)
    → (j : ℕ) → j < k + 1 → at_place (set numbers (at_place names k) k) (at_place names j) ≡ j
numbers_more n names numbers k are long h so_far j l =
    let low = are.below k 0 (omega (arith, h, are.count)) in
    let apart : j < k → eqb (at_place names j) (at_place names k) ≡ false =
    λ less. apart_from_distinct eqb names j k 0 are.apart less (omega (arith, h, are.count)) in
    let same = get_or-set_same numbers (at_place names k) k 0 in
    let other = get_or-set_other numbers (at_place names k) (at_place names j) k 0 in
    let before = so_far j in
    grind (arith, nat_tests)
