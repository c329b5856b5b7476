-- What the products of a cover give under an assignment, and that its clause fails where it does.
--
-- The sum of a constraint is its least sum and the sizes of the products that do not miss. So it
-- fails where those sizes sum to less than it needs.
use Rattle.conflict_clauses.proofs.Common.{nat_tests, ◌≡◌, ℕ, ◌+◌, ◌<◌, ◌≤◌, Bool, true, false, cond, not, ◌&&◌, ◌||◌, eqb, ltb, refl, sym, ap, ◌∙◌, arith, List, [], ◌∷◌, ◌++◌, length, map, ℤ, pos, negsuc, ◌+ℤ◌, ◌-ℤ◌, unsigned_abs, int_lt, list_all, list_any, flat_map, filter, sum_by, and_parts, eqb-true, false≢true, ints, list_any-append, sum_by-cons, if_so, positive_part, Literal, all_hold, holds, some_holds, Product, Constraint, fails, fails_hard, product_value, products_total, sum_of, cover_lists, gives, hard_clauses, is_cover, is_needed, is_single, need, negative_total, or-false, alone, size, wanted, turned_literal, beq}
use Rattle.std.specs.Prelude.{neg_ℤ}
use Rattle.conflict_clauses.proofs.Missing.{hard-fails, holds-plain, holds-turned}
use Rattle.conflict_clauses.proofs.Lists.{lost, none_of}

pub list_all-map : {A B : Type 0} (p : B → Bool) (f : A → B) (xs : List A)
    → list_all p (map f xs) ≡ list_all (λ x. p (f x)) xs
list_all-map p f [] = refl
list_all-map p f (x ∷ xs) = ap (λ b. p (f x) && b) (list_all-map p f xs)

-- ---- one product

-- some literal is true that the product is wanted for
abbrev pub hits : List Bool → Product → Bool
hits x t = list_any (holds x) (wanted true t)

plus : (b : Bool) (n : ℕ) → if_so (b && true) (pos n) +ℤ pos (positive_part (neg_ℤ (pos n)))
    ≡ pos (cond (b || false) (unsigned_abs (pos n)) 0)
plus b n = grind (arith, nat_tests, ints)

minus : (b : Bool) (n : ℕ)
    → if_so (b && true) (negsuc n) +ℤ pos (positive_part (neg_ℤ (negsuc n)))
    ≡ pos (cond (not b || false) (unsigned_abs (negsuc n)) 0)
minus b n = grind (arith, nat_tests, ints)

-- what a product of one literal adds is what it gives less the size of a negative coefficient
value : (x : List Bool) (ls : List Literal) (c : ℤ) → eqb (length ls) 1 ≡ true
    → if_so (all_hold x ls) c +ℤ pos (positive_part (neg_ℤ c))
    ≡ pos (cond (some_holds x (map (turned_literal (beq (int_lt c (pos 0)) true)) ls)) (unsigned_abs c) 0)
value x [] c single = absurd (false≢true single)
value x (l ∷ []) (pos n) single = rw (holds-plain x l n) (plus (holds x l) n)
value x (l ∷ []) (negsuc n) single = rw (holds-turned x l n) (minus (holds x l) n)
value x (l ∷ m ∷ ls) c single = absurd (omega (arith, eqb-true (length (l ∷ m ∷ ls)) 1 single))

add_up : (v s : ℤ) (a b p q : ℕ) → v +ℤ pos a ≡ pos p → s +ℤ pos b ≡ pos q
    → (v +ℤ s) +ℤ pos (a + b) ≡ pos (p + q)
add_up v s a b p q e f = omega (arith, ints)

sums : (x : List Bool) (ts : List Product) → list_all is_single ts ≡ true
    → sum_of x ts +ℤ pos (negative_total ts) ≡ pos (sum_by (lost (hits x) size) ts)
sums x [] single = omega (arith, ints)
sums x (t ∷ ts) single =
    let parts = and_parts (is_single t) (list_all is_single ts) single in
    (λ i. sum_of x (t ∷ ts) +ℤ pos (sum_by-cons (λ u. positive_part (neg_ℤ u.coefficient)) t ts i))
    ∙ add_up (product_value x t) (sum_of x ts) (positive_part (neg_ℤ t.coefficient)) (negative_total ts)
    (lost (hits x) size t) (sum_by (lost (hits x) size) ts)
    (value x t.literals t.coefficient parts.0) (sums x ts parts.1)
    ∙ ap pos (sym (sum_by-cons (lost (hits x) size) t ts))

pub negative_total-le : (ts : List Product) → negative_total ts ≤ products_total ts
negative_total-le [] = omega arith
negative_total-le (t ∷ ts) =
    let rest = negative_total-le ts in
    simp sum_by-cons (grind (arith, nat_tests, ints))

-- ---- what is needed

below : (s b : ℤ) (n g : ℕ) → s +ℤ pos n ≡ pos g
    → int_lt s b ≡ ltb g (positive_part (b -ℤ neg_ℤ (pos n)))
below s b n g sum = grind (arith, nat_tests, ints)

-- where each size is enough, the sum of what is given is too, unless none is
enough : (p : Product → Bool) (n : ℕ) (ts : List Product) → 0 < n → list_all (gives n) ts ≡ true
    → ltb (sum_by (lost p size) ts) n ≡ none_of p ts
enough p n [] some all = grind (arith, nat_tests)
enough p n (t ∷ ts) some all =
    let rest = enough p n ts some in
    simp sum_by-cons (grind (arith, nat_tests))

any-wanted : (x : List Bool) (ts : List Product)
    → list_any (holds x) (flat_map (wanted true) ts) ≡ list_any (hits x) ts
any-wanted x [] = refl
any-wanted x (t ∷ ts) =
    list_any-append (holds x) (wanted true t) (flat_map (wanted true) ts)
    ∙ ap (λ b. hits x t || b) (any-wanted x ts)

-- ---- a cover

pub record CoverParts (k : Constraint) : Type 0 where
  pub exact : k.exact ≡ false
  pub single : list_all is_single k.products ≡ true
  pub some : 0 < need k
  pub all : list_all (gives (need k)) k.products ≡ true

pub cover_parts : (k : Constraint) → is_cover k ≡ true → CoverParts k
cover_parts k h = grind (arith, nat_tests)

-- a cover fails where its clause does
pub cover-fails : (x : List Bool) (k : Constraint) → is_cover k ≡ true
    → list_any (fails_hard x) (hard_clauses (cover_lists k)) ≡ fails x k
cover-fails x k cover =
    let parts = cover_parts k cover in
    let ts = k.products in
    let lacks = below (sum_of x ts) k.bound (negative_total ts) (sum_by (lost (hits x) size) ts)
    (sums x ts parts.single) in
    let given = enough (hits x) (need k) ts parts.some parts.all in
    let wanted = hard-fails x (cover_lists k) ∙ or-false (none_of (holds x) (flat_map (wanted true) ts))
    ∙ ap not (any-wanted x ts) in
    grind (arith, nat_tests, ints)

-- ---- its literals

-- with no room each product that gives something is needed
all-needed : (n : ℕ) (ts : List Product) → 0 < n → list_all (gives n) ts ≡ true
    → filter (is_needed 0) ts ≡ ts
all-needed n [] some all = refl
all-needed n (t ∷ ts) some all = grind (arith, nat_tests, all-needed n ts some)

-- literals of which each alone is what a product wants are what all want
joined : (ls : List Literal) (ts : List Product) → map alone ls ≡ map (wanted true) ts
    → ls ≡ flat_map (wanted true) ts
joined [] [] e = refl
joined [] (t ∷ ts) e = cc
joined (l ∷ ls) [] e = cc
joined (l ∷ ls) (t ∷ ts) e =
    let first : l ∷ [] ≡ wanted true t = cc in
    let others : map alone ls ≡ map (wanted true) ts = cc in
    (λ i. first i ++ joined ls ts others i)

-- what is taken with no room are the literals of the clause
pub cover_literals : (k : Constraint) (ls : List Literal) → is_cover k ≡ true
    → map alone ls ≡ map (wanted true) (filter (is_needed 0) k.products) → ls ∷ [] ≡ cover_lists k
cover_literals k ls cover same =
    let parts = cover_parts k cover in
    ap (λ ms. ms ∷ []) (joined ls k.products
    (same ∙ ap (map (wanted true)) (all-needed (need k) k.products parts.some parts.all)))
