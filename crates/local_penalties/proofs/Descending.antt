-- Numbers in descending order, their sums, and the greatest of them.
use Rattle.local_penalties.proofs.Common.{◌≡◌, ℕ, zero, suc, ◌+◌, ◌-◌, ◌<◌, ◌≤◌, refl, sym, ap, ◌∙◌, arith, nat_tests, List, [], ◌∷◌, length, map, get_or, Bool, true, false, cond, nat_lt, sum_by, sum_by-cons, AllByRecursion, put_down, descending, count_past, count_by, IsSortedBy, is_lt, nat_cmp}
use Rattle.problem_form.proofs.Common.{⊤}

-- no number is above one before it
abbrev pub IsFalling : List ℕ → Type 0
IsFalling [] = ⊤
IsFalling (n ∷ ns) = AllByRecursion (λ m. m ≤ n) ns × IsFalling ns

all-weaker : (a b : ℕ) (ns : List ℕ) → a ≤ b → AllByRecursion (λ m. m ≤ a) ns → AllByRecursion (λ m. m ≤ b) ns
all-weaker a b [] le all = tt
all-weaker a b (n ∷ ns) le all = (omega (arith, le, all.0), all-weaker a b ns le all.1)

all-put : (b n : ℕ) (ns : List ℕ) → n ≤ b → AllByRecursion (λ m. m ≤ b) ns
    → AllByRecursion (λ m. m ≤ b) (put_down n ns)
all-put b n [] le all = (le, tt)
all-put b n (m ∷ ms) le all = decide (all-put b n ms le all.1) (nat_lt m n)
  where
    decide : AllByRecursion (λ i. i ≤ b) (put_down n ms) → (c : Bool) → AllByRecursion (λ i. i ≤ b) (cond c (n ∷ m ∷ ms) (m ∷ put_down n ms))
    decide later true = (le, all)
    decide later false = (all.0, later)

put-falls : (n : ℕ) (ns : List ℕ) → IsFalling ns → IsFalling (put_down n ns)
put-falls n [] falls = (tt, tt)
put-falls n (m ∷ ms) falls = decide (put-falls n ms falls.1) (nat_lt m n) refl
  where
    decide : IsFalling (put_down n ms) → (c : Bool) → nat_lt m n ≡ c → IsFalling (cond c (n ∷ m ∷ ms) (m ∷ put_down n ms))
    decide later true e =
        let le : m ≤ n = grind (arith, nat_tests) in
        ((le, all-weaker m n ms le falls.0), falls)
    decide later false e =
        let le : n ≤ m = grind (arith, nat_tests) in
        (all-put m n ms le falls.0, later)

pub descending-falls : (ns : List ℕ) → IsFalling (descending ns)
descending-falls [] = tt
descending-falls (n ∷ ns) = put-falls n (descending ns) (descending-falls ns)

-- ---- sums

sum-put : (f : ℕ → ℕ) (n : ℕ) (ns : List ℕ) → sum_by f (put_down n ns) ≡ f n + sum_by f ns
sum-put f n [] = sum_by-cons f n []
sum-put f n (m ∷ ms) = decide (sum-put f n ms) (nat_lt m n)
  where
    decide : sum_by f (put_down n ms) ≡ f n + sum_by f ms → (c : Bool)
        → sum_by f (cond c (n ∷ m ∷ ms) (m ∷ put_down n ms)) ≡ f n + sum_by f (m ∷ ms)
    decide later true = sum_by-cons f n (m ∷ ms)
    decide later false = omega (arith, sum_by-cons f m (put_down n ms), later, sum_by-cons f m ms)

pub sum-descending : (f : ℕ → ℕ) (ns : List ℕ) → sum_by f (descending ns) ≡ sum_by f ns
sum-descending f [] = refl
sum-descending f (n ∷ ns) = omega (arith, sum-put f n (descending ns), sum-descending f ns, sum_by-cons f n ns)

-- ---- one order

count-cons : (p : ℕ → Bool) (n : ℕ) (ns : List ℕ) → count_by p (n ∷ ns) ≡ cond (p n) 1 0 + count_by p ns
count-cons p n ns = sum_by-cons (λ m. cond (p m) 1 0) n ns

none-above : (b : ℕ) (ns : List ℕ) → AllByRecursion (λ m. m ≤ b) ns → count_by (nat_lt b) ns ≡ 0
none-above b [] all = refl
none-above b (n ∷ ns) all =
    let more = count-cons (nat_lt b) n ns in
    let others = none-above b ns all.1 in
    let here = all.0 in
    grind (arith, nat_tests)

first-le : (m n : ℕ) (ms ns : List ℕ) → IsFalling (m ∷ ms)
    → ((f : ℕ → ℕ) → sum_by f (m ∷ ms) ≡ sum_by f (n ∷ ns)) → n ≤ m
first-le m n ms ns falls sums = decide (nat_lt m n) refl
  where
    decide : (c : Bool) → nat_lt m n ≡ c → n ≤ m
    decide false e = grind (arith, nat_tests)
    decide true e =
        let none = none-above m ms falls.0 in
        let left = count-cons (nat_lt m) m ms in
        let right = count-cons (nat_lt m) n ns in
        let same = sums (λ i. cond (nat_lt m i) 1 0) in
        absurd (wrong none left right same)
      where
        wrong : count_by (nat_lt m) ms ≡ 0 → count_by (nat_lt m) (m ∷ ms) ≡ cond (nat_lt m m) 1 0 + count_by (nat_lt m) ms
            → count_by (nat_lt m) (n ∷ ns) ≡ cond (nat_lt m n) 1 0 + count_by (nat_lt m) ns
            → count_by (nat_lt m) (m ∷ ms) ≡ count_by (nat_lt m) (n ∷ ns) → ⊥
        wrong none left right same = grind (arith, nat_tests)

-- two falling lists of the same numbers are the same
pub one-order : (ms ns : List ℕ) → IsFalling ms → IsFalling ns
    → ((f : ℕ → ℕ) → sum_by f ms ≡ sum_by f ns) → ms ≡ ns
one-order [] [] left right sums = refl
one-order [] (n ∷ ns) left right sums = absurd (omega (arith, sums (λ _. 1), sum_by-cons (λ _. 1) n ns))
one-order (m ∷ ms) [] left right sums = absurd (omega (arith, sums (λ _. 1), sum_by-cons (λ _. 1) m ms))
one-order (m ∷ ms) (n ∷ ns) left right sums =
    let same : m ≡ n = omega (arith, first-le m n ms ns left sums, first-le n m ns ms right (λ f. sym (sums f))) in
    let others : ms ≡ ns = one-order ms ns left.1 right.1 (λ f.
    omega (arith, sums f, sum_by-cons f m ms, sum_by-cons f n ns, ap f same)) in
    λ j. same j ∷ others j

-- ---- a list that was sorted

not-less : (m n : ℕ) → is_lt (nat_cmp m n) ≡ false → n ≤ m
not-less m n e = grind (arith, nat_tests)

pub sorted-falls : (ns : List ℕ) → IsSortedBy (λ m n. is_lt (nat_cmp n m)) ns → IsFalling ns
sorted-falls [] sorted = tt
sorted-falls (n ∷ []) sorted = (tt, tt)
sorted-falls (n ∷ m ∷ ms) sorted =
    let le = not-less n m (sorted 0 0 (omega arith) (omega arith)) in
    let falls = sorted-falls (m ∷ ms) (λ k d low high. later k d high) in
    ((le, all-weaker m n ms le falls.0), falls)
  where
    later : (k d : ℕ) → k + 1 < length (m ∷ ms)
        → is_lt (nat_cmp (get_or (m ∷ ms) k d) (get_or (m ∷ ms) (k + 1) d)) ≡ false
    later k d high =
        let up : suc k + 1 ≡ suc (k + 1) = omega arith in
        rw up at (sorted (suc k) d (omega arith) (omega (arith, high)))

-- ---- the greatest

-- fewer than so many numbers are above the one at a place
pub few-above : (ns : List ℕ) (i d : ℕ) → IsFalling ns → i < length ns → count_by (nat_lt (get_or ns i d)) ns ≤ i
few-above [] i d falls within = absurd (omega (arith, within))
few-above (n ∷ ns) zero d falls within =
    let none = none-above n ns falls.0 in
    let more = count-cons (nat_lt n) n ns in
    grind (arith, nat_tests)
few-above (n ∷ ns) (suc i) d falls within =
    let others = few-above ns i d falls.1 (omega (arith, within)) in
    let more = count-cons (nat_lt (get_or ns i d)) n ns in
    grind (arith, nat_tests)

-- the sum of the first so many
abbrev pub top : ℕ → List ℕ → ℕ
top zero ns = 0
top (suc i) [] = 0
top (suc i) (n ∷ ns) = n + top i ns

top-put-more : (i n : ℕ) (ns : List ℕ) → IsFalling ns → n + top i ns ≤ top (suc i) (put_down n ns)
top-put-more zero n [] falls = omega arith
top-put-more (suc i) n [] falls = omega arith
top-put-more i n (m ∷ ms) falls = decide (λ k. top-put-more k n ms falls.1) i (nat_lt m n) refl
  where
    decide : ((k : ℕ) → n + top k ms ≤ top (suc k) (put_down n ms)) → (i : ℕ) (c : Bool) → nat_lt m n ≡ c
        → n + top i (m ∷ ms) ≤ top (suc i) (cond c (n ∷ m ∷ ms) (m ∷ put_down n ms))
    decide later i true e = omega arith
    decide later zero false e = grind (arith, nat_tests)
    decide later (suc i) false e = omega (arith, later i)

top-more : (i n : ℕ) (ns : List ℕ) → IsFalling (n ∷ ns) → top i ns ≤ top i (n ∷ ns)
top-more zero n ns falls = omega arith
top-more (suc i) n [] falls = omega arith
top-more (suc i) n (m ∷ ms) falls = omega (arith, top-more i m ms falls.1, falls.0.0)

top-put : (i n : ℕ) (ns : List ℕ) → IsFalling ns → top i ns ≤ top i (put_down n ns)
top-put i n [] falls = none i
  where
    none : (i : ℕ) → top i [] ≤ top i (n ∷ [])
    none zero = omega arith
    none (suc i) = omega arith
top-put i n (m ∷ ms) falls = decide (λ k. top-put k n ms falls.1) i (nat_lt m n) refl
  where
    decide : ((k : ℕ) → top k ms ≤ top k (put_down n ms)) → (i : ℕ) (c : Bool) → nat_lt m n ≡ c
        → top i (m ∷ ms) ≤ top i (cond c (n ∷ m ∷ ms) (m ∷ put_down n ms))
    decide later i true e =
        let le : m ≤ n = grind (arith, nat_tests) in
        top-more i n (m ∷ ms) ((le, all-weaker m n ms le falls.0), falls)
    decide later zero false e = omega arith
    decide later (suc i) false e = omega (arith, later i)

-- so many of the numbers sum to no more than so many greatest do
pub picked-le : {X : Type 0} (f : X → ℕ) (p : X → Bool) (xs : List X)
    → sum_by (λ x. cond (p x) (f x) 0) xs ≤ top (count_by p xs) (descending (map f xs))
picked-le f p [] = omega arith
picked-le f p (x ∷ xs) = decide (picked-le f p xs) (p x) refl
  where
    more : sum_by (λ y. cond (p y) (f y) 0) (x ∷ xs) ≡ cond (p x) (f x) 0 + sum_by (λ y. cond (p y) (f y) 0) xs
    more = sum_by-cons (λ y. cond (p y) (f y) 0) x xs

    count : count_by p (x ∷ xs) ≡ cond (p x) 1 0 + count_by p xs
    count = sum_by-cons (λ y. cond (p y) 1 0) x xs

    falls : IsFalling (descending (map f xs))
    falls = descending-falls (map f xs)

    decide : sum_by (λ y. cond (p y) (f y) 0) xs ≤ top (count_by p xs) (descending (map f xs))
        → (b : Bool) → p x ≡ b
        → sum_by (λ y. cond (p y) (f y) 0) (x ∷ xs) ≤ top (count_by p (x ∷ xs)) (put_down (f x) (descending (map f xs)))
    decide later true e =
        let one : count_by p (x ∷ xs) ≡ suc (count_by p xs) = count ∙ ap {B = ℕ} (λ b. cond b 1 0 + count_by p xs) e ∙ omega arith in
        let sum : sum_by (λ y. cond (p y) (f y) 0) (x ∷ xs) ≡ f x + sum_by (λ y. cond (p y) (f y) 0) xs =
        more ∙ ap {B = ℕ} (λ b. cond b (f x) 0 + sum_by (λ y. cond (p y) (f y) 0) xs) e in
        rw one (omega (arith, sum, later, top-put-more (count_by p xs) (f x) _ falls))
    decide later false e =
        let none : count_by p (x ∷ xs) ≡ count_by p xs = count ∙ ap {B = ℕ} (λ b. cond b 1 0 + count_by p xs) e ∙ omega arith in
        let sum : sum_by (λ y. cond (p y) (f y) 0) (x ∷ xs) ≡ sum_by (λ y. cond (p y) (f y) 0) xs =
        more ∙ ap {B = ℕ} (λ b. cond b (f x) 0 + sum_by (λ y. cond (p y) (f y) 0) xs) e ∙ omega arith in
        rw none (omega (arith, sum, later, top-put (count_by p xs) (f x) _ falls))

-- where so many first numbers sum to more than a room, no more are needed
pub enough-past : (i room : ℕ) (ns : List ℕ) → room < top i ns → count_past room ns ≤ i
enough-past zero room ns past = absurd (omega (arith, past))
enough-past (suc i) room [] past = omega arith
enough-past (suc i) room (n ∷ ns) past = decide (enough-past i (room - n) ns) (nat_lt room n) refl
  where
    decide : (room - n < top i ns → count_past (room - n) ns ≤ i) → (c : Bool) → nat_lt room n ≡ c
        → cond c 1 (1 + count_past (room - n) ns) ≤ suc i
    decide later true e = omega arith
    decide later false e =
        let le : n ≤ room = grind (arith, nat_tests) in
        omega (arith, later (omega (arith, past, le)))
