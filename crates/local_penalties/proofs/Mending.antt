-- What a literal that repairs a part gains.
use Rattle.local_penalties.proofs.Common.{◌≡◌, ℕ, ◌+◌, ◌*◌, ◌<◌, ◌≤◌, ◌^◌, refl, arith, nat_tests, ints, List, [], ◌∷◌, length, Bool, true, false, not, cond, ◌&&◌, ◌||◌, eqb, nat_lt, list_any, int_lt, sum_by, sum_by-cons, flat_map, filter, ℤ, pos, ◌+ℤ◌, ◌-ℤ◌, ◌≤ℤ◌, neg_ℤ, positive_part, Literal, Product, Clause, Constraint, turned_literal, same, is_negative, sufficient, wanted, negative_total, hurts_clause, hurts_constraint, most_missing, need, soft_rise, charge, clause_charges, constraint_charges, far, own, rest, false≢true, All, All-head, All-tail}
use Rattle.local_penalties.proofs.Bounds.{square-mono}
use Rattle.std.proofs.Math.Nat.{mul-le-mul_left, mul-le-mul_right}
use Rattle.problem_form.proofs.Common.{holds, product_value, sum_of, is_violated, if_so, fails_hard, fails, list_any-append, unwrap_or}
use Rattle.local_penalties.proofs.Sizes.{suffices}
use Rattle.problem_form.specs.PartPenalties.{made_true, missing, clause_prices, constraint_prices, some_whole}
use Rattle.local_penalties.proofs.Flips.{some-lost, clause-breaks, missing-keeps, missing-le, sum-low}

-- ---- a constraint that is repaired alone

pub same-holds : (x : List Bool) (l m : Literal) → same l m ≡ true → holds x l ≡ holds x m
same-holds x l m is = grind (arith, nat_tests)

pub turned-holds : (x : List Bool) (m : Literal) → holds x (turned_literal true m) ≡ not (holds x m)
turned-holds x m = grind (arith, nat_tests)

pub plain-holds : (x : List Bool) (m : Literal) → holds x (turned_literal false m) ≡ holds x m
plain-holds x m = grind (arith, nat_tests)

value-low : (x : List Bool) (t : Product)
    → neg_ℤ (pos (positive_part (neg_ℤ t.coefficient))) ≤ℤ product_value x t
value-low x t = grind (arith, nat_tests, ints)

value-reaches : (x : List Bool) (below : ℕ) (t : Product) (ls : List Literal) (l : Literal) → ls ≡ t.literals
    → suffices below t ≡ true → list_any (same l) (wanted true t) ≡ true → holds x l ≡ true
    → (neg_ℤ (pos (positive_part (neg_ℤ t.coefficient))) +ℤ pos below) ≤ℤ product_value x t
value-reaches x below t [] l is enough listed on = grind (arith, nat_tests)
value-reaches x below t (m ∷ []) l is enough listed on =
    let turned = turned-holds x m in
    let plain = plain-holds x m in
    let alike = same-holds x l (turned_literal (is_negative t) m) in
    grind (arith, nat_tests, ints)
value-reaches x below t (m ∷ k ∷ ls) l is enough listed on = grind (arith, nat_tests)

-- where a literal is true that suffices, the sum is above the least one by what can be missing
pub reaches : (x : List Bool) (below : ℕ) (ts : List Product) (l : Literal)
    → list_any (same l) (flat_map (wanted true) (filter (suffices below) ts)) ≡ true → holds x l ≡ true
    → (neg_ℤ (pos (negative_total ts)) +ℤ pos below) ≤ℤ sum_of x ts
reaches x below [] l listed on = absurd (false≢true listed)
reaches x below (t ∷ ts) l listed on =
    decide (λ later. reaches x below ts l later on) (suffices below t) refl (list_any (same l) (wanted true t)) refl
  where
    decide : (list_any (same l) (flat_map (wanted true) (filter (suffices below) ts)) ≡ true
        → (neg_ℤ (pos (negative_total ts)) +ℤ pos below) ≤ℤ sum_of x ts) → (b : Bool) → suffices below t ≡ b → (d : Bool) → list_any (same l) (wanted true t) ≡ d
        → (neg_ℤ (pos (negative_total (t ∷ ts))) +ℤ pos below) ≤ℤ sum_of x (t ∷ ts)
    decide again true e true f =
        let here = value-reaches x below t t.literals l refl e f on in
        let others = sum-low x ts in
        let sum = sum_by-cons (λ (u : Product). positive_part (neg_ℤ u.coefficient)) t ts in
        grind (arith, nat_tests, ints)
    decide again true e false f =
        let both = list_any-append (same l) (wanted true t) (flat_map (wanted true) (filter (suffices below) ts)) in
        let later : list_any (same l) (flat_map (wanted true) (filter (suffices below) ts)) ≡ true = grind (arith, nat_tests) in
        let here = value-low x t in
        let others = again later in
        let sum = sum_by-cons (λ (u : Product). positive_part (neg_ℤ u.coefficient)) t ts in
        grind (arith, nat_tests, ints)
    decide again false e d f =
        let later : list_any (same l) (flat_map (wanted true) (filter (suffices below) ts)) ≡ true = grind (arith, nat_tests) in
        let here = value-low x t in
        let others = again later in
        let sum = sum_by-cons (λ (u : Product). positive_part (neg_ℤ u.coefficient)) t ts in
        grind (arith, nat_tests, ints)

above-all : (n : ℕ) (b s : ℤ) → (neg_ℤ (pos n) +ℤ pos (positive_part (b -ℤ neg_ℤ (pos n)))) ≤ℤ s → int_lt s b ≡ false
above-all n b s h = grind (arith, nat_tests, ints)

-- where such a literal is true the constraint holds
pub alone-holds : (x : List Bool) (k : Constraint) (l : Literal) → k.exact ≡ false
    → list_any (same l) (flat_map (wanted true) (sufficient k)) ≡ true → holds x l ≡ true → fails x k ≡ false
alone-holds x k l bounds listed on =
    let over = above-all (negative_total k.products) k.bound (sum_of x k.products)
    (reaches x (need k) k.products l listed on) in
    grind (arith, nat_tests)

-- one of which nothing can be missing always holds
pub always-holds : (x : List Bool) (k : Constraint) → k.exact ≡ false → need k ≡ 0 → fails x k ≡ false
always-holds x k bounds none =
    let low = sum-low x k.products in
    grind (arith, nat_tests, ints)

-- ---- what is missing

pub holds-missing : (x : List Bool) (k : Constraint) → fails x k ≡ false → missing x k ≡ 0
holds-missing x k holds' = grind (arith, nat_tests, ints)

pub fails-missing : (x : List Bool) (k : Constraint) → fails x k ≡ true → 1 ≤ missing x k
fails-missing x k broken = grind (arith, nat_tests, ints)

pub constraint-breaks : (x : List Bool) (l : Literal) (k : Constraint) → l.variable < length x
    → fails (made_true x l) k ≡ true → (fails x k || hurts_constraint k l) ≡ true
constraint-breaks x l k within broken = decide (fails x k) refl (hurts_constraint k l) refl
  where
    decide : (b : Bool) → fails x k ≡ b → (d : Bool) → hurts_constraint k l ≡ d → (b || d) ≡ true
    decide true e d f = refl
    decide false e true f = refl
    decide false e false f =
        let some = fails-missing (made_true x l) k broken in
        let none = holds-missing x k e in
        let kept = missing-keeps x l k within f in
        absurd (omega arith)

-- ---- no part without a penalty of its own is broken

finite-own : (n m missing : ℕ) → charge n m missing < far → nat_lt m n ≡ true
finite-own n m missing finite = grind (arith, nat_tests)

pub whole-clauses : (x : List Bool) (l : Literal) (n : ℕ) (ns : List ℕ) (cs : List Clause) → l.variable < length x
    → some_whole (fails_hard x) n ns cs ≡ false → clause_charges n ns cs l < far
    → some_whole (fails_hard (made_true x l)) n ns cs ≡ false
whole-clauses x l n ns [] within before finite = refl
whole-clauses x l n ns (c ∷ cs) within before finite =
    let others = whole-clauses x l n (rest ns) cs within in
    let breaks = clause-breaks x l c within in
    let small = finite-own n (own n ns) 1 in
    grind (arith, nat_tests)

pub not-whole : (hurts : Bool) (n m missing others : ℕ) → cond hurts (charge n m missing) 0 + others < far
    → hurts ≡ true → eqb m n ≡ false
not-whole true n m missing others finite _ = grind (arith, nat_tests)
not-whole false n m missing others finite e = absurd (false≢true e)

pub kept-step : (was now hurts entire before after : Bool) → (now ≡ true → (was || hurts) ≡ true)
    → (hurts ≡ true → entire ≡ false) → ((was && entire) || before) ≡ false
    → (before ≡ false → after ≡ false) → ((now && entire) || after) ≡ false
kept-step was now hurts entire before after breaks small none others = grind (arith, nat_tests)

pub whole-constraints : (x : List Bool) (l : Literal) (n : ℕ) (ns : List ℕ) (ks : List Constraint) → l.variable < length x
    → some_whole (fails x) n ns ks ≡ false → constraint_charges n ns ks l < far
    → some_whole (fails (made_true x l)) n ns ks ≡ false
whole-constraints x l n ns [] within before finite = refl
whole-constraints x l n ns (k ∷ ks) within before finite =
    kept-step (fails x k) (fails (made_true x l) k) (hurts_constraint k l) (eqb (own n ns) n) _ _
    (constraint-breaks x l k within)
    (not-whole (hurts_constraint k l) n (own n ns) (most_missing k) (constraint_charges n (rest ns) ks l) finite) before
    (λ none. whole-constraints x l n (rest ns) ks within none (omega (arith, finite)))

-- ---- what all parts add

charge-above : (n m : ℕ) → m ≤ n → n ≤ far → m ≤ charge n m 1
charge-above n m le small = grind (arith, nat_tests)

pub clause-adds : (x : List Bool) (l : Literal) (n m : ℕ) (c : Clause) → l.variable < length x → m ≤ n → n ≤ far
    → if_so (is_violated (made_true x l) c) (pos (unwrap_or c.weight m))
    ≤ℤ (if_so (is_violated x c) (pos (unwrap_or c.weight m))
    +ℤ pos (soft_rise l c + cond (hurts_clause c l) (charge n m 1) 0))
clause-adds x l n m c within le small =
    let lost = some-lost x l c.literals within in
    let above = charge-above n m le small in
    grind (arith, nat_tests, ints)

pub own-le : (n : ℕ) (ns : List ℕ) → own n ns ≤ n
own-le n [] = omega arith
own-le n (m ∷ ms) = omega arith

-- clauses add no more than soft clauses rise and hurt ones are charged
pub clauses-rise : (x : List Bool) (l : Literal) (n : ℕ) (ns : List ℕ) (cs : List Clause) → l.variable < length x → n ≤ far
    → clause_prices (made_true x l) n ns cs
    ≤ℤ (clause_prices x n ns cs +ℤ pos (sum_by (soft_rise l) cs + clause_charges n ns cs l))
clauses-rise x l n ns [] within small = grind (arith, ints)
clauses-rise x l n ns (c ∷ cs) within small =
    let here = clause-adds x l n (own n ns) c within (own-le n ns) small in
    let others = clauses-rise x l n (rest ns) cs within small in
    let sum = sum_by-cons (soft_rise l) c cs in
    omega (arith, ints, here, others, sum)

hurt-adds : (hurts : Bool) (n m after before most : ℕ) → m ≤ n → n * most ^ 2 ≤ far → after ≤ most
    → (hurts ≡ false → after ≤ before)
    → m * after ^ 2 ≤ m * before ^ 2 + cond hurts (charge n m most) 0
hurt-adds false n m after before most le small within kept =
    omega (arith, mul-le-mul_left m (square-mono after before (kept refl)))
hurt-adds true n m after before most le small within kept =
    let own_part = mul-le-mul_left m (square-mono after most within) in
    let whole_part = mul-le-mul_right (most ^ 2) le in
    decide (nat_lt m n) refl (omega (arith, own_part)) (omega (arith, own_part, whole_part, small))
  where
    decide : (b : Bool) → nat_lt m n ≡ b → m * after ^ 2 ≤ m * before ^ 2 + m * most ^ 2
        → m * after ^ 2 ≤ m * before ^ 2 + far → m * after ^ 2 ≤ m * before ^ 2 + cond b (m * most ^ 2) far
    decide true e h k = h
    decide false e h k = k

pub constraint-adds : (x : List Bool) (l : Literal) (n m : ℕ) (k : Constraint) → l.variable < length x → m ≤ n
    → n * most_missing k ^ 2 ≤ far
    → m * missing (made_true x l) k ^ 2 ≤ m * missing x k ^ 2 + cond (hurts_constraint k l) (charge n m (most_missing k)) 0
constraint-adds x l n m k within le small =
    hurt-adds (hurts_constraint k l) n m (missing (made_true x l) k) (missing x k) (most_missing k) le small
    (missing-le (made_true x l) k) (missing-keeps x l k within)

-- constraints add no more than hurt ones are charged
pub constraints-rise : (x : List Bool) (l : Literal) (n : ℕ) (ns : List ℕ) (ks : List Constraint) → l.variable < length x
    → All (λ k. n * most_missing k ^ 2 ≤ far) ks
    → constraint_prices (made_true x l) n ns ks
    ≤ℤ (constraint_prices x n ns ks +ℤ pos (constraint_charges n ns ks l))
constraints-rise x l n ns [] within small = grind (arith, ints)
constraints-rise x l n ns (k ∷ ks) within small =
    let here = constraint-adds x l n (own n ns) k within (own-le n ns) (All-head (λ (j : Constraint). n * most_missing j ^ 2 ≤ far) k ks small) in
    let others = constraints-rise x l n (rest ns) ks within (All-tail (λ (j : Constraint). n * most_missing j ^ 2 ≤ far) k ks small) in
    omega (arith, ints, here, others)
