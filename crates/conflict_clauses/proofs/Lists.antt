-- Tests of each two elements of a list, and numbers of which each two are more than a limit.
use Rattle.conflict_clauses.proofs.Common.{size, others, and-false, nat_tests, elements, ◌≡◌, ℕ, ◌+◌, ◌≤◌, Bool, true, false, cond, not, ◌&&◌, ◌||◌, ltb, refl, sym, ap, ◌∙◌, arith, List, [], ◌∷◌, ◌++◌, map, filter, list_all, list_any, sum_by, and_parts, le-ltb, lt-ltb, ltb-false, ltb-true, list_any-append, sum_by-cons, each_two, pairs_of}

-- ---- tests

not-or : (a b : Bool) → not (a || b) ≡ (not a && not b)
not-or a b = grind (arith, nat_tests)

pub or-swap : (a b c : Bool) → (a || (b || c)) ≡ (b || (a || c))
or-swap a b c = grind (arith, nat_tests, elements)

pub list_any-map : {A B : Type 0} (p : B → Bool) (f : A → B) (xs : List A)
    → list_any p (map f xs) ≡ list_any (λ x. p (f x)) xs
list_any-map p f [] = refl
list_any-map p f (x ∷ xs) = ap (λ b. p (f x) || b) (list_any-map p f xs)

-- ---- each two

-- some two elements pass a test
abbrev pub two_pass : {A : Type 0} → (A → Bool) → List A → Bool
two_pass p [] = false
two_pass p (x ∷ xs) = (p x && list_any p xs) || two_pass p xs

pub two_pass-map : {A B : Type 0} (p : B → Bool) (f : A → B) (xs : List A)
    → two_pass p (map f xs) ≡ two_pass (λ x. p (f x)) xs
two_pass-map p f [] = refl
two_pass-map p f (x ∷ xs) = λ i. (p (f x) && list_any-map p f xs i) || two_pass-map p f xs i

two_pass-none : {A : Type 0} (p : A → Bool) (xs : List A) → list_any p xs ≡ false
    → two_pass p xs ≡ false
two_pass-none p [] none = refl
two_pass-none p (x ∷ xs) none = grind (arith, nat_tests, two_pass-none p xs)

-- no element of a list passes the test
abbrev pub none_of : {A : Type 0} → (A → Bool) → List A → Bool
none_of p xs = not (list_any p xs)

none_of-append : {A : Type 0} (p : A → Bool) (xs ys : List A)
    → none_of p (xs ++ ys) ≡ (none_of p xs && none_of p ys)
none_of-append p xs ys = ap not (list_any-append p xs ys) ∙ not-or (list_any p xs) (list_any p ys)

joined : {A : Type 0} (p : A → Bool) (first : List A) (others : List (List A))
    → list_any (none_of p) (map (λ bs. first ++ bs) others)
    ≡ (none_of p first && list_any (none_of p) others)
joined p first [] = sym (and-false (none_of p first))
joined p first (second ∷ others) =
    grind (arith, nat_tests, none_of-append p first second, joined p first others)

-- of some pair no element passes where two lists have none
pub pairs_of-none : {A : Type 0} (p : A → Bool) (lists : List (List A))
    → list_any (none_of p) (pairs_of lists) ≡ two_pass (none_of p) lists
pairs_of-none p [] = refl
pairs_of-none p (first ∷ others) =
    grind (arith, nat_tests, list_any-append, joined p first others, pairs_of-none p others)

-- ---- a filter, one element at a time

any-filter : {A : Type 0} (p q : A → Bool) (x : A) (xs : List A)
    → list_any p (filter q (x ∷ xs)) ≡ ((q x && p x) || list_any p (filter q xs))
any-filter p q x xs = grind (arith, nat_tests)

two-filter : {A : Type 0} (p q : A → Bool) (x : A) (xs : List A) → two_pass p (filter q (x ∷ xs))
    ≡ ((q x && (p x && list_any p (filter q xs))) || two_pass p (filter q xs))
two-filter p q x xs = grind (arith, nat_tests)

-- what passes is among what a second test keeps, or among what it leaves out
any-parts : {A : Type 0} (p q : A → Bool) (xs : List A)
    → list_any p xs ≡ (list_any p (filter q xs) || list_any p (filter (λ x. not (q x)) xs))
any-parts p q [] = refl
any-parts p q (x ∷ xs) = grind (arith, nat_tests, any-parts p q xs)

-- ---- sums of sizes, of which each two are above a limit

-- the size of what passes the test
abbrev pub lost : {A : Type 0} → (A → Bool) → (A → ℕ) → A → ℕ
lost p size x = cond (p x) (size x) 0

-- a size beside which each other one is too much: the sum is, where one is lost
beside : {A : Type 0} (p : A → Bool) (size : A → ℕ) (most n : ℕ) (xs : List A) → n ≤ most
    → list_all (λ x. ltb most (n + size x)) xs ≡ true
    → ltb most (n + sum_by (lost p size) xs) ≡ list_any p xs
beside p size most n [] small apart = le-ltb most (n + 0) (omega arith)
beside p size most n (x ∷ xs) small apart =
    let rest = beside p size most n xs small in
    simp sum_by-cons (grind (arith, nat_tests))

finish : (most n l : ℕ) (p c f s q : Bool) → ltb most l ≡ (f || q) → (c ≡ false → ltb most (n + l)
    ≡ (f || s)) → (c ≡ true → ltb most (n + l) ≡ true) → (s ≡ false → q ≡ false)
    → ltb most (cond p n 0 + l) ≡ (((c && p) || f) || ((not c && (p && s)) || q))
finish most n l p c f s q rest alone great few = grind (arith, nat_tests)

-- the sum of what is lost is too much where one that is too much by itself is lost, or two others are
pub sum_lost : {A : Type 0} (p : A → Bool) (size : A → ℕ) (most : ℕ) (xs : List A)
    → each_two (λ x y. ltb most (size x + size y)) xs ≡ true → ltb most (sum_by (lost p size) xs)
    ≡ (list_any p (filter (λ x. ltb most (size x)) xs)
    || two_pass p (filter (λ x. not (ltb most (size x))) xs))
sum_lost p size most [] apart = le-ltb most 0 (omega arith)
sum_lost {A = A} p size most (x ∷ xs) apart =
    let is_great = λ (y : A). ltb most (size y) in
    let is_small = λ (y : A). not (ltb most (size y)) in
    let parts = and_parts (list_all (λ y. ltb most (size x + size y)) xs)
    (each_two (λ y z. ltb most (size y + size z)) xs) apart in
    ap (ltb most) (sum_by-cons (lost p size) x xs)
    ∙ finish most (size x) (sum_by (lost p size) xs) (p x) (ltb most (size x)) (list_any p _)
    (list_any p _) (two_pass p _) (sum_lost p size most xs parts.1)
    (λ e. beside p size most (size x) xs (ltb-false most (size x) e) parts.0 ∙ any-parts p is_great xs)
    (λ e. lt-ltb most (size x + sum_by (lost p size) xs) (omega (arith, ltb-true most (size x) e)))
    (two_pass-none p _)
    ∙ (λ i. sym (any-filter p is_great x xs) i || sym (two-filter p is_small x xs) i)
