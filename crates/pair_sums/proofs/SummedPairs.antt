-- Entries in the order of their pairs, with equal neighbours as one: the pairs rise, and each has
-- the sum of its weights.
use Rattle.pair_sums.proofs.Common.{if◌then◌else◌, eqb, Decides-eqb, Decides, false, true, Bool, nat_tests, ◌≡◌, ◌≢◌, ℕ, suc, ◌+◌, ◌<◌, ◌≤◌, ◌^◌, ℤ, ◌+ℤ◌, unsigned_abs, List, [], ◌∷◌, ◌++◌, All, refl, ◌∙◌, arith, ⊤, AllByRecursion, IsPermutation, IsNonDecreasingBy, ints, eq-eqb, All-from_recursion, recursion_from_All, sum_by-cons, All-permutation, sum_by-IsPermutation, size-plus, total_by-IsPermutation, Entry, weight_total, pair_number, IsPair, IsNonzero, weight_for, weight_at, heavier, entry_in_front, sums_from, sums_of, AreSummed, AppendsSums}
use Rattle.pair_sums.proofs.PairOrder.{ArePairs, Before, Rises, ordered_from_rising}

-- ---- what holds of each entry

All-front : (P : Entry → Type 0) (e : Entry) (es : List Entry) → P e → AllByRecursion P es
    → AllByRecursion P (entry_in_front e es)
All-front P e es here all = grind (arith, nat_tests)

-- a fact of the pair alone
pub All-sums_of : (P : Entry → Type 0) → ((e : Entry) (c : ℤ) → P e → P (heavier e c))
    → (e : Entry) (es : List Entry) → P e → AllByRecursion P es → AllByRecursion P (sums_from e es)
All-sums_of P keeps e [] here all = All-front P e [] here all
All-sums_of P keeps e (f ∷ fs) here all =
    let one = All-sums_of P keeps (heavier e f.weight) fs (keeps e f.weight here) all.1 in
    grind (arith, one, All-front P e (sums_from f fs) here (All-sums_of P keeps f fs all.0 all.1))

nonzero-front : (e : Entry) (es : List Entry) → AllByRecursion IsNonzero es
    → AllByRecursion IsNonzero (entry_in_front e es)
nonzero-front e es all = grind (arith, nat_tests)

nonzero-sums_of : (e : Entry) (es : List Entry) → AllByRecursion IsNonzero (sums_from e es)
nonzero-sums_of e [] = nonzero-front e [] tt
nonzero-sums_of e (f ∷ fs) =
    grind (arith, nat_tests, nonzero-sums_of (heavier e f.weight) fs, nonzero-sums_of f fs)

-- ---- the order

-- the number of the pair is at most those of all others
abbrev UpTo : Entry → List Entry → Type 0
UpTo e es = AllByRecursion (λ f. pair_number e ≤ pair_number f) es

-- the numbers don't fall
abbrev Climbs : List Entry → Type 0
Climbs [] = ⊤
Climbs (e ∷ es) = UpTo e es × Climbs es

Before-up : (e f : Entry) (es : List Entry) → pair_number e < pair_number f → UpTo f es → Before e es
Before-up e f [] less up = tt
Before-up e f (g ∷ gs) less up = (omega (arith, less, up.0), Before-up e f gs less up.1)

before-sums_of : (d e : Entry) (es : List Entry) → pair_number d < pair_number e → UpTo e es
    → Before d (sums_from e es)
before-sums_of d e es less up =
    All-sums_of (λ f. pair_number d < pair_number f) (λ f c h. h) e es less (Before-up d e es less up)

rises-front : (e : Entry) (es : List Entry) → Before e es → Rises es → Rises (entry_in_front e es)
rises-front e es before rises = grind (arith, nat_tests)

rises-sums_of : (e : Entry) (es : List Entry) → UpTo e es → Climbs es → Rises (sums_from e es)
rises-sums_of e [] up climbs = rises-front e [] tt tt
rises-sums_of e (f ∷ fs) up climbs =
    let rest = rises-sums_of f fs climbs.0 climbs.1 in
    let apart : pair_number e < pair_number f → Rises (entry_in_front e (sums_from f fs)) =
    λ less. rises-front e (sums_from f fs) (before-sums_of e f fs less climbs.0) rest in
    grind (arith, nat_tests, rises-sums_of (heavier e f.weight) fs up.1 climbs.1, apart, up.0)

-- ---- the sums

weight-front : (i j : ℕ) (e : Entry) (es : List Entry)
    → weight_at i j (entry_in_front e es) ≡ weight_for i j e +ℤ weight_at i j es
weight-front i j e es = grind (arith, nat_tests, ints)

weight_for-heavier : (i j : ℕ) (e f : Entry) → IsPair (2 ^ 32) e → IsPair (2 ^ 32) f
    → pair_number e ≡ pair_number f → weight_for i j (heavier e f.weight) ≡ weight_for i j e +ℤ weight_for i j f
weight_for-heavier i j e f a b same = grind (arith, nat_tests, ints)

weight-sums_of : (i j : ℕ) (e : Entry) (es : List Entry) → IsPair (2 ^ 32) e → ArePairs es
    → weight_at i j (sums_from e es) ≡ weight_for i j e +ℤ weight_at i j es
weight-sums_of i j e [] a pairs = weight-front i j e []
weight-sums_of i j e (f ∷ fs) a pairs =
    go (eqb (pair_number e) (pair_number f)) (Decides-eqb (pair_number e) (pair_number f))
    (weight-sums_of i j (heavier e f.weight) fs (record { upward = a.upward; within = a.within }) pairs.1)
    (weight-sums_of i j f fs pairs.0 pairs.1)
  where
    go : (same : Bool) → Decides same (pair_number e ≡ pair_number f)
        → weight_at i j (sums_from (heavier e f.weight) fs)
        ≡ weight_for i j (heavier e f.weight) +ℤ weight_at i j fs
        → weight_at i j (sums_from f fs) ≡ weight_for i j f +ℤ weight_at i j fs
        → weight_at i j (if same then sums_from (heavier e f.weight) fs else entry_in_front e (sums_from f fs))
        ≡ weight_for i j e +ℤ (weight_for i j f +ℤ weight_at i j fs)
    go true d one apart = omega (arith, ints, one, weight_for-heavier i j e f a pairs.0 (d.0 refl))
    go false d one apart = omega (arith, ints, apart, weight-front i j e (sums_from f fs))

-- ---- the sizes

abbrev size : Entry → ℕ
size e = unsigned_abs e.weight

total-front : (e : Entry) (es : List Entry)
    → weight_total (entry_in_front e es) ≤ size e + weight_total es
total-front e es = grind (arith, sum_by-cons size e es)

total-sums_of : (e : Entry) (es : List Entry)
    → weight_total (sums_from e es) ≤ size e + weight_total es
total-sums_of e [] = total-front e []
total-sums_of e (f ∷ fs) =
    let one = total-sums_of (heavier e f.weight) fs in
    grind (arith, one, total-sums_of f fs, total-front e (sums_from f fs), sum_by-cons size f fs, size-plus e.weight f.weight)

-- ---- entries in any order, sorted and then summed

climbs-from_sorted : (es : List Entry) → IsNonDecreasingBy pair_number es → Climbs es
climbs-from_sorted [] h = tt
climbs-from_sorted (e ∷ es) h = (
  recursion_from_All _ es (λ k d in'. h 0 (suc k) d (omega arith) (omega arith)),
  climbs-from_sorted es (λ i j d le in'. h (suc i) (suc j) d (omega arith) (omega arith)),
)

abbrev AreWhole : List Entry → List Entry → Type 0
AreWhole from to =
    ArePairs to × Rises to × AllByRecursion IsNonzero to
    × ((n : ℕ) → AllByRecursion (IsPair n) from → AllByRecursion (IsPair n) to)
    × ((i j : ℕ) → weight_at i j to ≡ weight_at i j from)
    × (weight_total to ≤ weight_total from)

all_pairs : (n : ℕ) (es : List Entry) → AllByRecursion (IsPair n) es
    → AllByRecursion (IsPair n) (sums_of es)
all_pairs n es pairs = grind (arith, nat_tests, All-sums_of)

all_firsts : (i : ℕ) (es : List Entry) → AllByRecursion (λ e. e.first ≡ i) es
    → AllByRecursion (λ e. e.first ≡ i) (sums_of es)
all_firsts i [] firsts = tt
all_firsts i (e ∷ es) firsts = All-sums_of (λ f. f.first ≡ i) (λ f c h. h) e es firsts.0 firsts.1

sorted_summed : (es : List Entry) → ArePairs es → Climbs es → AreWhole es (sums_of es)
sorted_summed [] pairs climbs = (tt, tt, tt, λ n h. tt, λ i j. refl, omega arith)
sorted_summed (e ∷ es) pairs climbs = (
  all_pairs (2 ^ 32) (e ∷ es) pairs,
  rises-sums_of e es climbs.0 climbs.1,
  nonzero-sums_of e es,
  λ n h. all_pairs n (e ∷ es) h,
  λ i j. weight-sums_of i j e es pairs.0 pairs.1,
  omega (arith, total-sums_of e es, sum_by-cons size e es),
)

-- what sorting and summing make of any pairs
pub are_summed : (xs ys : List Entry) → All (IsPair (2 ^ 32)) xs → IsPermutation xs ys
    → IsNonDecreasingBy pair_number ys → AreSummed xs (sums_of ys)
are_summed xs ys pairs moved sorted =
    let here = recursion_from_All _ ys (All-permutation (IsPair (2 ^ 32)) xs ys moved pairs) in
    let whole = sorted_summed ys here (climbs-from_sorted ys sorted) in
    record {
      ordered = ordered_from_rising (sums_of ys) whole.0 whole.1;
      nonzero = All-from_recursion _ _ whole.2;
      pairs = λ n all.
          All-from_recursion _ _
          (whole.3 n (recursion_from_All _ ys (All-permutation (IsPair n) xs ys moved all)));
      sums = λ i j. whole.4 i j ∙ total_by-IsPermutation (weight_for i j) xs ys moved;
      small = omega (arith, whole.5, sum_by-IsPermutation size xs ys moved);
    }

-- such couplers behind others
pub append_summed : (xs ys old new : List Entry) → All (IsPair (2 ^ 32)) xs → IsPermutation xs ys
    → IsNonDecreasingBy pair_number ys → new ≡ old ++ sums_of ys → AppendsSums xs old new
append_summed xs ys old new pairs moved sorted made = record {
  row = sums_of ys;
  appended = made;
  summed = are_summed xs ys pairs moved sorted;
  firsts = λ i all.
      All-from_recursion (λ (e : Entry). e.first ≡ i) (sums_of ys)
      (all_firsts i ys (recursion_from_All _ ys (All-permutation (λ (e : Entry). e.first ≡ i) xs ys moved all)));
}

-- ---- one more entry of a list in which neighbours are summed

-- one more of the pair
pub sums_from-same : (p e : Entry) (es : List Entry) → pair_number p ≡ pair_number e
    → sums_from p (e ∷ es) ≡ sums_from (heavier p e.weight) es
sums_from-same p e es same = rw (eq-eqb (pair_number p) (pair_number e) same) refl

-- one of another pair
pub sums_from-other : (p e : Entry) (es : List Entry) → pair_number p ≢ pair_number e
    → sums_from p (e ∷ es) ≡ entry_in_front p [] ++ sums_from e es
sums_from-other p e es other = grind (arith, nat_tests)
