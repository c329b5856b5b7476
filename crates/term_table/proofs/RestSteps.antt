-- Steps of loops over runs and their places.
use Rattle.term_table.proofs.Common.{nat_tests, elements, ◌≡◌, ℕ, zero, suc, ◌+◌, ◌<◌, true, false, arith, length, get_or, take, drop, set, map, List, [], ◌∷◌, ◌++◌, ◌⊎◌, inr, sym, ap, ◌∙◌, refl, ◌+ℤ◌, Option, None, Some, ⊤, replicate, fold, AllByRecursion, IsStrictlySortedBy, is_eq, is_lt, ints, take_more, fold-append, total_by_more, Literal, Term, set_cmp, coefficient_of, Ascends, Run, entries, sum_over, AreOrdered, rests_of, head_of, lesser_of, least_in, first_weight, without, NotBelow, Begins, IsLeast, AreRests}
use Rattle.term_table.proofs.SetOrder.{set_total, set_itself, same_set}
use Rattle.term_table.proofs.KeptTerms.{Under-further, greater_back}
use Rattle.term_table.proofs.UniqueTerms.{coefficient_of-under}
use Rattle.term_table.proofs.MergingRuns.{less_back}

-- ---- the rest of a run, by its place

pub rests_start : (n : ℕ) (runs : List Run) → rests_of (replicate n 0) runs ≡ runs
rests_start zero [] = refl
rests_start zero (r ∷ rs) = refl
rests_start (suc n) [] = refl
rests_start (suc n) (r ∷ rs) = ap (λ (ss : List Run). r ∷ ss) (rests_start n rs)

pub rest_at : (places : List ℕ) (runs : List Run) (k d : ℕ) (e : Run) → k < length runs
    → k < length places → get_or (rests_of places runs) k [] ≡ drop (get_or places k d) (get_or runs k e)
rest_at places [] k d e in' there = absurd (omega arith)
rest_at [] (r ∷ rs) k d e in' there = absurd (omega arith)
rest_at (p ∷ ps) (r ∷ rs) zero d e in' there = refl
rest_at (p ∷ ps) (r ∷ rs) (suc k) d e in' there = rest_at ps rs k d e (omega arith) (omega arith)

pub rest_set : (places : List ℕ) (runs : List Run) (k p : ℕ) (e : Run) → k < length runs
    → k < length places → rests_of (set places k p) runs ≡ set (rests_of places runs) k (drop p (get_or runs k e))
rest_set places [] k p e in' there = absurd (omega arith)
rest_set [] (r ∷ rs) k p e in' there = absurd (omega arith)
rest_set (q ∷ ps) (r ∷ rs) zero p e in' there = refl
rest_set (q ∷ ps) (r ∷ rs) (suc k) p e in' there =
    ap (λ (ss : List Run). drop q r ∷ ss) (rest_set ps rs k p e (omega arith) (omega arith))

pub length-rests : (places : List ℕ) (runs : List Run) → length (rests_of places runs) ≡ length runs
length-rests places [] = refl
length-rests [] (r ∷ rs) = refl
length-rests (p ∷ ps) (r ∷ rs) = ap suc (length-rests ps rs)

same_some : (t u : Term) → Some t ≡ Some u → t ≡ u
same_some t u e = cc

self_up : (ls : List Literal) → is_lt (set_cmp ls ls) ≡ false
self_up ls = ap is_lt (set_itself ls)

-- ---- the least of the first sets

pub least_more : (rs : List Run) (k : ℕ) → k < length rs
    → least_in (take (k + 1) rs) ≡ lesser_of (least_in (take k rs)) (head_of (get_or rs k []))
least_more rs k in' = grind (arith, nat_tests, take_more rs k, fold-append)

not_less : (ls ks ms : List Literal) → is_lt (set_cmp ls ks) ≡ false → is_lt (set_cmp ks ms) ≡ false
    → is_lt (set_cmp ls ms) ≡ false
not_less ls ks ms first second =
    grind (arith, nat_tests, set_total.trans ls ms ks, same_set ks ms, greater_back ks ms)

less_turned : (ls ks : List Literal) → is_lt (set_cmp ls ks) ≡ true → is_lt (set_cmp ks ls) ≡ false
less_turned ls ks less = grind (arith, nat_tests, less_back)

-- the least of a term and the first ones
abbrev least_from : Option Term → List Run → Option Term
least_from o rs = fold (λ o run. lesser_of o (head_of run)) o rs

-- the term isn't below the other one
abbrev Above : List Literal → Option Term → Type 0
Above ls None = ⊤
Above ls (Some t) = is_lt (set_cmp t.0 ls) ≡ false

record Found (o : Option Term) (rs : List Run) (t : Term) : Type 0 where
  below : AllByRecursion (NotBelow t.0) rs
  start : Above t.0 o
  place : ((k : ℕ) × Begins t.0 (get_or rs k [])) ⊎ (o ≡ Some t)

later : (t : Term) (r : Run) (rs : List Run) → (k : ℕ) × Begins t.0 (get_or rs k [])
    → (k : ℕ) × Begins t.0 (get_or (r ∷ rs) k [])
later t r rs (k, b) = (suc k, b)

found : (o : Option Term) (rs : List Run) (t : Term) → least_from o rs ≡ Some t → Found o rs t
found o [] t e = record { below = tt; start = rw e (self_up t.0); place = inr e }
found None ([] ∷ rs) t e = grind (arith, nat_tests, found None rs t e, later t [] rs)
found None ((u ∷ us) ∷ rs) t e =
    grind (arith, nat_tests, found (Some u) rs t e, later t (u ∷ us) rs, same_some u t)
found (Some s) ([] ∷ rs) t e = grind (arith, nat_tests, found (Some s) rs t e, later t [] rs)
found (Some s) ((u ∷ us) ∷ rs) t e =
    grind (arith, nat_tests, found (Some u) rs t, found (Some s) rs t, not_less, less_turned, later, same_some)

pub least_is : (rs : List Run) (t : Term) → least_in rs ≡ Some t → IsLeast t.0 rs
least_is rs t e = grind (arith, nat_tests, found None rs t e)

none_from : (o : Option Term) (rs : List Run) → least_from o rs ≡ None → (o ≡ None) × (entries rs ≡ [])
none_from o [] e = (e, refl)
none_from None ([] ∷ rs) e = none_from None rs e
none_from None ((u ∷ us) ∷ rs) e = let f = none_from (Some u) rs e in absurd (let g = f.0 in cc)
none_from (Some s) ([] ∷ rs) e = let f = none_from (Some s) rs e in absurd (let g = f.0 in cc)
none_from (Some s) ((u ∷ us) ∷ rs) e =
    grind (arith, nat_tests, none_from (Some u) rs, none_from (Some s) rs)

pub least_none : (rs : List Run) → least_in rs ≡ None → entries rs ≡ []
least_none rs e = (none_from None rs e).1

-- ---- the set is taken from each run

-- one place on, where the rest begins with the set
pub past_first : (r : Run) (p : ℕ) (t : Term) (ls : List Literal) → head_of (drop p r) ≡ Some t
    → is_eq (set_cmp ls t.0) ≡ true → drop (p + 1) r ≡ without ls (drop p r)
past_first [] zero t ls e same = absurd cc
past_first [] (suc p) t ls e same = absurd cc
past_first (u ∷ us) zero t ls e same = grind (arith, nat_tests)
past_first (u ∷ us) (suc p) t ls e same = grind (arith, nat_tests, past_first us p t ls e same)

-- a term at a place lies before the end
pub place_below : (r : Run) (p : ℕ) (t : Term) → head_of (drop p r) ≡ Some t → p < length r
place_below [] zero t e = absurd cc
place_below [] (suc p) t e = absurd cc
place_below (u ∷ us) zero t e = omega arith
place_below (u ∷ us) (suc p) t e = let rest = place_below us p t e in omega arith

pub weight_is : (ls : List Literal) (r : Run) → Ascends r → NotBelow ls r
    → first_weight ls r ≡ coefficient_of ls r
unfolding IsStrictlySortedBy
weight_is ls [] up not = refl
weight_is ls (t ∷ ts) up not =
    let further = Under-further ls t.0 ts in
    let back = greater_back ls t.0 in
    grind (arith, nat_tests, ints, coefficient_of-under, further, back, same_set ls t.0)

abbrev half_taken : List Literal → ℕ → List Run → List Run
half_taken ls k rs = map (without ls) (take k rs) ++ drop k rs

taken_suc : (ls : List Literal) (rs : List Run) (k : ℕ) → k < length rs
    → set (half_taken ls k rs) k (without ls (get_or rs k [])) ≡ half_taken ls (suc k) rs
taken_suc ls [] k in' = absurd (omega arith)
taken_suc ls (r ∷ rs) zero in' = refl
taken_suc ls (r ∷ rs) (suc k) in' = ap (λ (ss : List Run). without ls r ∷ ss) (taken_suc ls rs k (omega arith))

taken_at : (ls : List Literal) (rs : List Run) (k : ℕ) → get_or (half_taken ls k rs) k [] ≡ get_or rs k []
taken_at ls [] zero = refl
taken_at ls [] (suc k) = refl
taken_at ls (r ∷ rs) zero = refl
taken_at ls (r ∷ rs) (suc k) = taken_at ls rs k

module _ (ls : List Literal) (places : List ℕ) (runs rests : List Run) (k : ℕ) (d : ℕ) (e : Run) (in' : k < length runs) (there : k < length places) where
  -- what the step finds
  pub step_rest : rests_of places runs ≡ map (without ls) (take k rests) ++ drop k rests
      → drop (get_or places k d) (get_or runs k e) ≡ get_or rests k []
  step_rest taken =
      grind (arith, nat_tests, rest_at places runs k d e in' there, taken_at ls rests k)

  -- what it leaves
  pub step_taken : (next : ℕ) → length runs ≡ length rests → rests_of places runs ≡ map (without ls)
      (take k rests) ++ drop k rests → drop next (get_or runs k e) ≡ without ls (get_or rests k [])
      → rests_of (set places k next) runs ≡ map (without ls)
      (take (k + 1) rests) ++ drop (k + 1) rests
  step_taken next size taken left =
      let place : k + 1 ≡ suc k = omega arith in
      grind (arith, nat_tests, elements, rest_set, taken_suc)

below_at : (ls : List Literal) (rs : List Run) (k : ℕ) → AllByRecursion (NotBelow ls) rs
    → NotBelow ls (get_or rs k [])
below_at ls [] k all = tt
below_at ls (r ∷ rs) zero all = all.0
below_at ls (r ∷ rs) (suc k) all = below_at ls rs k all.1

ordered_at : (rs : List Run) (k : ℕ) → AreOrdered rs → Ascends (get_or rs k [])
unfolding IsStrictlySortedBy
ordered_at [] k all = tt
ordered_at (r ∷ rs) zero all = all.0.0
ordered_at (r ∷ rs) (suc k) all = ordered_at rs k all.1

-- the sum grows by the coefficient of the run
pub step_sum : (ls : List Literal) (rests : List Run) (k : ℕ) → k < length rests → AreRests rests
    → IsLeast ls rests
    → sum_over ls (take (k + 1) rests) ≡ sum_over ls (take k rests) +ℤ first_weight ls (get_or rests k [])
step_sum ls rests k in' kept least =
    total_by_more (coefficient_of ls) rests k [] in' ∙ ap (λ c. sum_over ls (take k rests) +ℤ c)
    (sym (weight_is ls (get_or rests k []) (ordered_at rests k kept.ordered) (below_at ls rests k least.below)))
