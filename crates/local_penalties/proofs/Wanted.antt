-- Products of one literal: what the literals that they want add to a sum.
use Rattle.local_penalties.proofs.Common.{◌≡◌, ℕ, ◌<◌, ◌≤◌, sym, refl, arith, nat_tests, ints, List, [], ◌∷◌, length, Bool, true, false, not, cond, nat_lt, list_any, list_all, count_by, flat_map, sum_by, sum_by-cons, pos, ◌+ℤ◌, ◌≤ℤ◌, neg_ℤ, positive_part, All, All-head, All-tail, Literal, Product, same, is_single, size, wanted, moves, moves_sum, negative_total, positive_total, false≢true, IsNormalProduct}
use Rattle.problem_form.proofs.Common.{holds, product_value, sum_of, list_any-append}
use Rattle.problem_form.specs.PartPenalties.{made_true}
use Rattle.std.proofs.lemmas.List.Sums.{sum_by-append}
use Rattle.local_penalties.proofs.Flips.{holds-made, value-keeps, sum-keeps}
use Rattle.local_penalties.proofs.Mending.{same-holds, turned-holds, plain-holds}

-- the literal that a product wants is false
abbrev pub is_off : List Bool → Literal → Bool
is_off x l = not (holds x l)

abbrev pub lacks : Bool → List Bool → Product → Bool
lacks up x t = list_any (is_off x) (wanted up t)

-- ---- one product

short-above : (x : List Bool) (t : Product) (ls : List Literal) → ls ≡ t.literals → is_single t ≡ true
    → product_value x t +ℤ pos (cond (lacks true x t) (size t) 0) ≡ pos (positive_part t.coefficient)
short-above x t [] is single = grind (arith, nat_tests)
short-above x t (m ∷ []) is single =
    let turned = turned-holds x m in
    let plain = plain-holds x m in
    grind (arith, nat_tests, ints)
short-above x t (m ∷ k ∷ ls) is single = grind (arith, nat_tests)

pub short-below : (x : List Bool) (t : Product) (ls : List Literal) → ls ≡ t.literals → is_single t ≡ true
    → product_value x t ≡ neg_ℤ (pos (positive_part (neg_ℤ t.coefficient))) +ℤ pos (cond (lacks false x t) (size t) 0)
short-below x t [] is single = grind (arith, nat_tests)
short-below x t (m ∷ []) is single =
    let turned = turned-holds x m in
    let plain = plain-holds x m in
    grind (arith, nat_tests, ints)
short-below x t (m ∷ k ∷ ls) is single = grind (arith, nat_tests)

one-wanted : (up : Bool) (x : List Bool) (t : Product) (ls : List Literal) → ls ≡ t.literals → is_single t ≡ true
    → count_by (is_off x) (wanted up t) ≡ cond (lacks up x t) 1 0
one-wanted up x t [] is single = grind (arith, nat_tests)
one-wanted up x t (m ∷ []) is single = grind (arith, nat_tests)
one-wanted up x t (m ∷ k ∷ ls) is single = grind (arith, nat_tests)

-- ---- all products

pub first-single : (t : Product) (ts : List Product) → list_all is_single (t ∷ ts) ≡ true → is_single t ≡ true
first-single t ts all = grind (arith, nat_tests)

pub others-single : (t : Product) (ts : List Product) → list_all is_single (t ∷ ts) ≡ true → list_all is_single ts ≡ true
others-single t ts all = grind (arith, nat_tests)

-- the sum is below the greatest one by the sizes of the products whose wanted literal is false
pub sum-above : (x : List Bool) (ts : List Product) → list_all is_single ts ≡ true
    → sum_of x ts +ℤ pos (sum_by (λ t. cond (lacks true x t) (size t) 0) ts) ≡ pos (positive_total ts)
sum-above x [] single = grind (arith, ints)
sum-above x (t ∷ ts) single =
    let here = short-above x t t.literals refl (first-single t ts single) in
    let others = sum-above x ts (others-single t ts single) in
    let sizes = sum_by-cons (λ u. cond (lacks true x u) (size u) 0) t ts in
    let most = sum_by-cons (λ (u : Product). positive_part u.coefficient) t ts in
    omega (arith, ints, here, others, sizes, most)

-- and above the least one by those whose unwanted literal is false
pub sum-below : (x : List Bool) (ts : List Product) → list_all is_single ts ≡ true
    → sum_of x ts ≡ neg_ℤ (pos (negative_total ts)) +ℤ pos (sum_by (λ t. cond (lacks false x t) (size t) 0) ts)
sum-below x [] single = grind (arith, ints)
sum-below x (t ∷ ts) single =
    let here = short-below x t t.literals refl (first-single t ts single) in
    let others = sum-below x ts (others-single t ts single) in
    let sizes = sum_by-cons (λ u. cond (lacks false x u) (size u) 0) t ts in
    let least = sum_by-cons (λ (u : Product). positive_part (neg_ℤ u.coefficient)) t ts in
    omega (arith, ints, here, others, sizes, least)

pub count-wanted : (up : Bool) (x : List Bool) (ts : List Product) → list_all is_single ts ≡ true
    → count_by (is_off x) (flat_map (wanted up) ts) ≡ count_by (lacks up x) ts
count-wanted up x [] single = refl
count-wanted up x (t ∷ ts) single =
    let here = one-wanted up x t t.literals refl (first-single t ts single) in
    let others = count-wanted up x ts (others-single t ts single) in
    let both = sum_by-append (λ l. cond (is_off x l) 1 0) (wanted up t) (flat_map (wanted up) ts) in
    let count = sum_by-cons (λ u. cond (lacks up x u) 1 0) t ts in
    omega (arith, here, others, both, count)

-- ---- a wanted literal that becomes true

pub made-holds : (x : List Bool) (l : Literal) → l.variable < length x → holds (made_true x l) l ≡ true
made-holds x l within = let here = holds-made x l l within in grind (arith, nat_tests)

pub lacks-one : (up : Bool) (x : List Bool) (t : Product) (ls : List Literal) (l : Literal) → ls ≡ t.literals
    → is_single t ≡ true → list_any (same l) (wanted up t) ≡ true → lacks up x t ≡ is_off x l
lacks-one up x t [] l is single listed = grind (arith, nat_tests)
lacks-one up x t (m ∷ []) l is single listed =
    let alike = same-holds x l in
    grind (arith, nat_tests)
lacks-one up x t (m ∷ k ∷ ls) l is single listed = grind (arith, nat_tests)

-- the product adds its size more
pub value-steps : (x : List Bool) (t : Product) (l : Literal) → l.variable < length x → is_single t ≡ true
    → list_any (same l) (wanted true t) ≡ true → holds x l ≡ false
    → product_value x t +ℤ pos (size t) ≡ product_value (made_true x l) t
value-steps x t l within single listed off =
    let before = short-above x t t.literals refl single in
    let after = short-above (made_true x l) t t.literals refl single in
    let was = lacks-one true x t t.literals l refl single listed in
    let now = lacks-one true (made_true x l) t t.literals l refl single listed in
    let on = made-holds x l within in
    by-lacks (lacks true x t) (lacks true (made_true x l) t) (holds x l) (holds (made_true x l) l) before after was now off on
  where
    by-lacks : (a b c d : Bool) → product_value x t +ℤ pos (cond a (size t) 0) ≡ pos (positive_part t.coefficient)
        → product_value (made_true x l) t +ℤ pos (cond b (size t) 0) ≡ pos (positive_part t.coefficient)
        → a ≡ not c → b ≡ not d → c ≡ false → d ≡ true
        → product_value x t +ℤ pos (size t) ≡ product_value (made_true x l) t
    by-lacks true false false true before after was now off on = omega (arith, ints, before, after)
    by-lacks false b false d before after was now off on = absurd (false≢true was)
    by-lacks true true false true before after was now off on = absurd (false≢true (sym now))
    by-lacks a b true d before after was now off on = absurd (false≢true (sym off))
    by-lacks a b false false before after was now off on = absurd (false≢true on)

size-some : (variables : ℕ) (t : Product) → IsNormalProduct variables t → 1 ≤ size t
size-some variables t normal = decide (nat_lt 0 (size t)) refl
  where
    decide : (b : Bool) → nat_lt 0 (size t) ≡ b → 1 ≤ size t
    decide true e = grind (arith, nat_tests)
    decide false e =
        let none : size t ≡ 0 = grind (arith, nat_tests) in
        absurd (normal.nonzero (omega (arith, ints, none)))

-- a sum that the literal cannot lower rises
pub sum-steps : (x : List Bool) (ts : List Product) (l : Literal) → l.variable < length x
    → list_all is_single ts ≡ true → All (IsNormalProduct (length x)) ts
    → list_any (same l) (flat_map (wanted true) ts) ≡ true → holds x l ≡ false → moves_sum false ts l ≡ false
    → (sum_of x ts +ℤ pos 1) ≤ℤ sum_of (made_true x l) ts
sum-steps x [] l within single normal listed off none = absurd (false≢true listed)
sum-steps x (t ∷ ts) l within single normal listed off none =
    decide (λ later. sum-steps x ts l within (others-single t ts single)
    (All-tail (IsNormalProduct (length x)) t ts normal) later off others_none)
    (list_any (same l) (wanted true t)) refl
  where
    here_none : moves false t l ≡ false
    here_none = grind (arith, nat_tests)

    others_none : moves_sum false ts l ≡ false
    others_none = grind (arith, nat_tests)

    decide : (list_any (same l) (flat_map (wanted true) ts) ≡ true → (sum_of x ts +ℤ pos 1) ≤ℤ sum_of (made_true x l) ts)
        → (b : Bool) → list_any (same l) (wanted true t) ≡ b
        → (sum_of x (t ∷ ts) +ℤ pos 1) ≤ℤ sum_of (made_true x l) (t ∷ ts)
    decide later true e =
        let here = value-steps x t l within (first-single t ts single) e off in
        let some = size-some (length x) t (All-head (IsNormalProduct (length x)) t ts normal) in
        let others = sum-keeps false x l ts within others_none in
        omega (arith, ints, here, some, others)
    decide later false e =
        let both = list_any-append (same l) (wanted true t) (flat_map (wanted true) ts) in
        let listed_later : list_any (same l) (flat_map (wanted true) ts) ≡ true = grind (arith, nat_tests) in
        let here = value-keeps false x l t within here_none in
        omega (arith, ints, here, later listed_later)
