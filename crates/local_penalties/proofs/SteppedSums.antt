-- Equations that can be repaired step by step: of products of one literal, of different variables and
-- of one size.
use Rattle.local_penalties.proofs.Common.{◌≡◌, ℕ, ◌+◌, ◌*◌, ◌/◌, ◌%◌, ◌<◌, ◌≤◌, sym, ap, subst, ◌∙◌, refl, arith, nat_tests, ints, List, [], ◌∷◌, ◌++◌, length, map, Bool, true, false, not, cond, ◌&&◌, ◌||◌, eqb, eqb-true, nat_lt, int_lt, list_any, list_all, count_by, flat_map, sum_by, sum_by-cons, ℤ, pos, ◌+ℤ◌, ◌-ℤ◌, neg_ℤ, positive_part, Literal, Product, Constraint, same, is_single, size, common_size, variables_of, all_differ, is_between, is_stepped, wanted, positive_total, least_sum, need, room, negative_total, false≢true}
use Rattle.problem_form.proofs.Common.{holds, all_hold, product_value, sum_of, list_any-append}
use Rattle.local_penalties.proofs.Sizes.{has_size}
use Rattle.problem_form.specs.PartPenalties.{made_true}
use Rattle.std.proofs.Math.Nat.{mul-add, mul-le-mul_left, div-add-mod, lt_of_mul-lt-mul_left}
use Rattle.local_penalties.proofs.Flips.{holds-made}
use Rattle.local_penalties.proofs.Wanted.{lacks, first-single, others-single, sum-above, sum-below, made-holds, lacks-one, short-below, value-steps}

-- ---- literals of other variables

all-same : (x : List Bool) (l : Literal) (ls : List Literal) → l.variable < length x
    → list_any (λ n. eqb n l.variable) (map (λ m. m.variable) ls) ≡ false
    → all_hold (made_true x l) ls ≡ all_hold x ls
all-same x l [] within none = refl
all-same x l (m ∷ ls) within none =
    let here = holds-made x l m within in
    let others = all-same x l ls within in
    grind (arith, nat_tests)

value-same : (x : List Bool) (l : Literal) (t : Product) → l.variable < length x
    → list_any (λ n. eqb n l.variable) (map (λ m. m.variable) t.literals) ≡ false
    → product_value (made_true x l) t ≡ product_value x t
value-same x l t within none =
    ap {B = ℤ} (λ b. cond b t.coefficient (pos 0)) (all-same x l t.literals within none)

sum-same : (x : List Bool) (l : Literal) (ts : List Product) → l.variable < length x
    → list_any (λ n. eqb n l.variable) (variables_of ts) ≡ false
    → sum_of (made_true x l) ts ≡ sum_of x ts
sum-same x l [] within none = refl
sum-same x l (t ∷ ts) within none =
    let both = list_any-append (λ n. eqb n l.variable) (map (λ m. m.variable) t.literals) (variables_of ts) in
    let here = value-same x l t within (grind (arith, nat_tests)) in
    let others = sum-same x l ts within (grind (arith, nat_tests)) in
    λ j. here j +ℤ others j

wanted-variable : (up : Bool) (t : Product) (ls : List Literal) (l : Literal) → ls ≡ t.literals → is_single t ≡ true
    → list_any (same l) (wanted up t) ≡ true
    → list_any (λ n. eqb n l.variable) (map (λ m. m.variable) ls) ≡ true
wanted-variable up t [] l is single listed = grind (arith, nat_tests)
wanted-variable up t (m ∷ []) l is single listed = grind (arith, nat_tests)
wanted-variable up t (m ∷ k ∷ ls) l is single listed = grind (arith, nat_tests)

listed-variable : (up : Bool) (ts : List Product) (l : Literal) → list_all is_single ts ≡ true
    → list_any (same l) (flat_map (wanted up) ts) ≡ true
    → list_any (λ n. eqb n l.variable) (variables_of ts) ≡ true
listed-variable up [] l single listed = absurd (false≢true listed)
listed-variable up (t ∷ ts) l single listed =
    let here = wanted-variable up t t.literals l refl (first-single t ts single) in
    let others = listed-variable up ts l (others-single t ts single) in
    let wanted_both = list_any-append (same l) (wanted up t) (flat_map (wanted up) ts) in
    let both = list_any-append (λ n. eqb n l.variable) (map (λ m. m.variable) t.literals) (variables_of ts) in
    both ∙ either (list_any (same l) (wanted up t)) (list_any (same l) (flat_map (wanted up) ts)) _ _ here others
    (sym wanted_both ∙ listed)
  where
    either : (a b c d : Bool) → (a ≡ true → c ≡ true) → (b ≡ true → d ≡ true) → (a || b) ≡ true → (c || d) ≡ true
    either a b c d f g e = grind (arith, nat_tests)

-- one literal of a variable that no later one has
first-differs : (ls : List Literal) (vs : List ℕ) (v : ℕ) → eqb (length ls) 1 ≡ true
    → all_differ (map (λ m. m.variable) ls ++ vs) ≡ true
    → list_any (λ n. eqb n v) (map (λ m. m.variable) ls) ≡ true → list_any (λ n. eqb n v) vs ≡ false
first-differs [] vs v single differ here = grind (arith, nat_tests)
first-differs (m ∷ []) vs v single differ here =
    let is : m.variable ≡ v = grind (arith, nat_tests) in
    let none : list_any (λ n. eqb n m.variable) vs ≡ false = grind (arith, nat_tests) in
    subst (λ w. list_any (λ n. eqb n w) vs ≡ false) is none
first-differs (m ∷ k ∷ ls) vs v single differ here = grind (arith, nat_tests)

others-differ : (ls : List Literal) (vs : List ℕ) → eqb (length ls) 1 ≡ true
    → all_differ (map (λ m. m.variable) ls ++ vs) ≡ true → all_differ vs ≡ true
others-differ [] vs single differ = grind (arith, nat_tests)
others-differ (m ∷ []) vs single differ = grind (arith, nat_tests)
others-differ (m ∷ k ∷ ls) vs single differ = grind (arith, nat_tests)

-- ---- one step

value-falls : (x : List Bool) (t : Product) (l : Literal) → l.variable < length x → is_single t ≡ true
    → list_any (same l) (wanted false t) ≡ true → holds x l ≡ false
    → product_value (made_true x l) t +ℤ pos (size t) ≡ product_value x t
value-falls x t l within single listed off =
    let before = short-below x t t.literals refl single in
    let after = short-below (made_true x l) t t.literals refl single in
    let was = lacks-one false x t t.literals l refl single listed in
    let now = lacks-one false (made_true x l) t t.literals l refl single listed in
    let on = made-holds x l within in
    by-lacks (lacks false x t) (lacks false (made_true x l) t) (holds x l) (holds (made_true x l) l)
    (neg_ℤ (pos (positive_part (neg_ℤ t.coefficient)))) before after was now off on
  where
    by-lacks : (a b c d : Bool) (least : ℤ) → product_value x t ≡ least +ℤ pos (cond a (size t) 0)
        → product_value (made_true x l) t ≡ least +ℤ pos (cond b (size t) 0)
        → a ≡ not c → b ≡ not d → c ≡ false → d ≡ true
        → product_value (made_true x l) t +ℤ pos (size t) ≡ product_value x t
    by-lacks true false false true least before after was now off on = omega (arith, ints, before, after)
    by-lacks false b false d least before after was now off on = absurd (false≢true was)
    by-lacks true true false true least before after was now off on = absurd (false≢true (sym now))
    by-lacks a b true d least before after was now off on = absurd (false≢true (sym off))
    by-lacks a b false false least before after was now off on = absurd (false≢true on)

value-moves : (up : Bool) (x : List Bool) (t : Product) (l : Literal) → l.variable < length x → is_single t ≡ true
    → list_any (same l) (wanted up t) ≡ true → holds x l ≡ false
    → cond up (product_value x t) (product_value (made_true x l) t) +ℤ pos (size t)
    ≡ cond up (product_value (made_true x l) t) (product_value x t)
value-moves true x t l within single listed off = value-steps x t l within single listed off
value-moves false x t l within single listed off = value-falls x t l within single listed off

moved-first : (up : Bool) (v v' s s' : ℤ) (n g : ℕ) → cond up v v' +ℤ pos n ≡ cond up v' v → n ≡ g → s' ≡ s
    → cond up (v +ℤ s) (v' +ℤ s') +ℤ pos g ≡ cond up (v' +ℤ s') (v +ℤ s)
moved-first true v v' s s' n g moved is same = omega (arith, ints, moved, is, same)
moved-first false v v' s s' n g moved is same = omega (arith, ints, moved, is, same)

moved-later : (up : Bool) (v v' s s' : ℤ) (g : ℕ) → v' ≡ v → cond up s s' +ℤ pos g ≡ cond up s' s
    → cond up (v +ℤ s) (v' +ℤ s') +ℤ pos g ≡ cond up (v' +ℤ s') (v +ℤ s)
moved-later true v v' s s' g same moved = omega (arith, ints, moved, same)
moved-later false v v' s s' g same moved = omega (arith, ints, moved, same)

first-size : (g : ℕ) (t : Product) (ts : List Product) → list_all (has_size g) (t ∷ ts) ≡ true → size t ≡ g
first-size g t ts sized = grind (arith, nat_tests)

others-sized : (g : ℕ) (t : Product) (ts : List Product) → list_all (has_size g) (t ∷ ts) ≡ true
    → list_all (has_size g) ts ≡ true
others-sized g t ts sized = grind (arith, nat_tests)

-- a wanted literal that becomes true moves the sum by the size
pub sum-moves : (up : Bool) (x : List Bool) (g : ℕ) (ts : List Product) (l : Literal) → l.variable < length x
    → list_all is_single ts ≡ true → list_all (has_size g) ts ≡ true → all_differ (variables_of ts) ≡ true
    → list_any (same l) (flat_map (wanted up) ts) ≡ true → holds x l ≡ false
    → cond up (sum_of x ts) (sum_of (made_true x l) ts) +ℤ pos g ≡ cond up (sum_of (made_true x l) ts) (sum_of x ts)
sum-moves up x g [] l within single sized differ listed off = absurd (false≢true listed)
sum-moves up x g (t ∷ ts) l within single sized differ listed off =
    decide (λ later. sum-moves up x g ts l within (others-single t ts single) (others-sized g t ts sized)
    (others-differ t.literals (variables_of ts) (first-single t ts single) differ) later off)
    (list_any (same l) (wanted up t)) refl
  where
    decide : (list_any (same l) (flat_map (wanted up) ts) ≡ true → cond up (sum_of x ts) (sum_of (made_true x l) ts) +ℤ pos g
        ≡ cond up (sum_of (made_true x l) ts) (sum_of x ts))
        → (b : Bool) → list_any (same l) (wanted up t) ≡ b
        → cond up (sum_of x (t ∷ ts)) (sum_of (made_true x l) (t ∷ ts)) +ℤ pos g
        ≡ cond up (sum_of (made_true x l) (t ∷ ts)) (sum_of x (t ∷ ts))
    decide later true e =
        let single_here = first-single t ts single in
        let none = first-differs t.literals (variables_of ts) l.variable single_here differ
        (wanted-variable up t t.literals l refl single_here e) in
        moved-first up _ _ _ _ (size t) g (value-moves up x t l within single_here e off) (first-size g t ts sized)
        (sum-same x l ts within none)
    decide later false e =
        let both = list_any-append (same l) (wanted up t) (flat_map (wanted up) ts) in
        let listed_later : list_any (same l) (flat_map (wanted up) ts) ≡ true = grind (arith, nat_tests) in
        moved-later up _ _ _ _ g (value-same x l t within (other (list_any (λ n. eqb n l.variable) (map (λ m. m.variable) t.literals)) refl
        (listed-variable up ts l (others-single t ts single) listed_later))) (later listed_later)
      where
        other : (b : Bool) → list_any (λ n. eqb n l.variable) (map (λ m. m.variable) t.literals) ≡ b
            → list_any (λ n. eqb n l.variable) (variables_of ts) ≡ true
            → list_any (λ n. eqb n l.variable) (map (λ m. m.variable) t.literals) ≡ false
        other false e there = e
        other true e there =
            absurd (false≢true (sym (first-differs t.literals (variables_of ts) l.variable (first-single t ts single) differ e) ∙ there))

-- ---- how many steps

counted-sizes : {X : Type 0} (p : X → Bool) (f : X → ℕ) (g : ℕ) (xs : List X) → list_all (λ x. eqb (f x) g) xs ≡ true
    → sum_by (λ x. cond (p x) (f x) 0) xs ≡ g * count_by p xs
counted-sizes p f g [] sized = omega arith
counted-sizes p f g (x ∷ xs) sized =
    step (p x) (sum_by-cons (λ y. cond (p y) (f y) 0) x xs) (sum_by-cons (λ y. cond (p y) 1 0) x xs)
    (counted-sizes p f g xs (grind (arith, nat_tests))) (grind (arith, nat_tests)) (mul-add g 1 (count_by p xs))
  where
    step : (b : Bool) → sum_by (λ y. cond (p y) (f y) 0) (x ∷ xs) ≡ cond b (f x) 0 + sum_by (λ y. cond (p y) (f y) 0) xs
        → count_by p (x ∷ xs) ≡ cond b 1 0 + count_by p xs
        → sum_by (λ y. cond (p y) (f y) 0) xs ≡ g * count_by p xs → f x ≡ g
        → g * (1 + count_by p xs) ≡ g * 1 + g * count_by p xs
        → sum_by (λ y. cond (p y) (f y) 0) (x ∷ xs) ≡ g * count_by p (x ∷ xs)
    step true sum count others is more =
        let one : count_by p (x ∷ xs) ≡ 1 + count_by p xs = count in
        rw one (omega (arith, sum, others, is, more))
    step false sum count others is more =
        let none : count_by p (x ∷ xs) ≡ count_by p xs = omega (arith, count) in
        rw none (omega (arith, sum, others))

pub past-div : (a g c : ℕ) → a < g * c → a / g < c
past-div a g c less = lt_of_mul-lt-mul_left g (omega (arith, div-add-mod a g, less))

-- multiples of a size are a size apart
pub apart-by : (g c q : ℕ) → g * c < g * q → g * c + g ≤ g * q
apart-by g c q less =
    let fewer : c < q = lt_of_mul-lt-mul_left g less in
    let more : c + 1 ≤ q = omega (arith, fewer) in
    omega (arith, mul-le-mul_left g more, mul-add g c 1)

-- what is known of such an equation: sums lie by multiples of the size above the least one, and below
-- the greatest one, as the bound does
pub record Facts (x : List Bool) (k : Constraint) (g : ℕ) : Type 0 where
  pub some : 1 ≤ g
  pub single : list_all is_single k.products ≡ true
  pub sized : list_all (has_size g) k.products ≡ true
  pub differ : all_differ (variables_of k.products) ≡ true
  pub bound_below : k.bound ≡ neg_ℤ (pos (negative_total k.products)) +ℤ pos (need k)
  pub bound_above : k.bound +ℤ pos (room k) ≡ pos (positive_total k.products)
  pub multiple : need k ≡ g * (need k / g)
  pub sum_above : sum_of x k.products +ℤ pos (g * count_by (lacks true x) k.products) ≡ pos (positive_total k.products)
  pub sum_below : sum_of x k.products
      ≡ neg_ℤ (pos (negative_total k.products)) +ℤ pos (g * count_by (lacks false x) k.products)

record Stepped (k : Constraint) : Type 0 where
  pub some : nat_lt 0 (common_size k.products) ≡ true
  pub single : list_all is_single k.products ≡ true
  pub between : is_between k ≡ true
  pub multiple : eqb (need k % common_size k.products) 0 ≡ true
  pub differ : all_differ (variables_of k.products) ≡ true

five : (a b c d e : Bool) → (a && b && c && d && e) ≡ true
    → (a ≡ true) × (b ≡ true) × (c ≡ true) × (d ≡ true) × (e ≡ true)
five true true true true true h = (refl, refl, refl, refl, refl)
five true true true true false h = absurd (false≢true h)
five true true true false e h = absurd (false≢true h)
five true true false d e h = absurd (false≢true h)
five true false c d e h = absurd (false≢true h)
five false b c d e h = absurd (false≢true h)

stepped : (k : Constraint) → is_stepped k ≡ true → Stepped k
stepped k is =
    let h = five (nat_lt 0 (common_size k.products)) (list_all is_single k.products) (is_between k)
    (eqb (need k % common_size k.products) 0) (all_differ (variables_of k.products)) is in
    record { some = h.0; single = h.1; between = h.2; multiple = h.3; differ = h.4 }

size-common : (ts : List Product) → nat_lt 0 (common_size ts) ≡ true → list_all (has_size (common_size ts)) ts ≡ true
size-common [] some = refl
size-common (t ∷ ts) some = decide (list_all (has_size (size t)) ts) refl some
  where
    decide : (b : Bool) → list_all (has_size (size t)) ts ≡ b → nat_lt 0 (cond b (size t) 0) ≡ true
        → list_all (has_size (cond b (size t) 0)) (t ∷ ts) ≡ true
    decide true e some = grind (arith, nat_tests)
    decide false e some = absurd (false≢true some)

between-below : (b : ℤ) (n : ℕ) → int_lt b (neg_ℤ (pos n)) ≡ false
    → b ≡ neg_ℤ (pos n) +ℤ pos (positive_part (b -ℤ neg_ℤ (pos n)))
between-below b n e = grind (arith, nat_tests, ints)

between-above : (b : ℤ) (n : ℕ) → int_lt (pos n) b ≡ false → b +ℤ pos (positive_part (pos n -ℤ b)) ≡ pos n
between-above b n e = grind (arith, nat_tests, ints)

pub facts : (x : List Bool) (k : Constraint) → is_stepped k ≡ true → Facts x k (common_size k.products)
facts x k is =
    let h = stepped k is in
    let ts = k.products in
    let g = common_size ts in
    let sized = size-common ts h.some in
    let low : int_lt k.bound (least_sum k.products) ≡ false = (let between = h.between in grind (arith, nat_tests)) in
    let high : int_lt (pos (positive_total k.products)) k.bound ≡ false = (let between = h.between in grind (arith, nat_tests)) in
    let above = sum-above x ts h.single in
    let below = sum-below x ts h.single in
    record {
      some = (let some = h.some in grind (arith, nat_tests));
      single = h.single;
      sized = sized;
      differ = h.differ;
      bound_below = between-below k.bound (negative_total ts) low;
      bound_above = between-above k.bound (positive_total ts) high;
      multiple = omega (arith, div-add-mod (need k) g, eqb-true (need k % g) 0 h.multiple);
      sum_above = ap (λ n. sum_of x ts +ℤ pos n) (sym (counted-sizes (lacks true x) size g ts sized)) ∙ above;
      sum_below = below ∙ ap (λ n. neg_ℤ (pos (negative_total ts)) +ℤ pos n) (counted-sizes (lacks false x) size g ts sized);
    }
