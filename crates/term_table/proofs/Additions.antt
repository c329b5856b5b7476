-- What additions do to sums over a table.
--
-- A sum of the coefficients of the sets that pass a test grows by exactly what is added; a sum of
-- sizes grows by at most that. Each is proved for one addition, by the order of the added set and
-- the first one, and then for a list of additions.
use Rattle.term_table.proofs.Common.{nat_tests, ◌≡◌, ℕ, ◌+◌, ◌≤◌, Bool, true, false, arith, sym, ap, refl, List, [], ◌∷◌, ℤ, ◌+ℤ◌, unsigned_abs, sum_by, ◌++◌, is_eq, match_ordering, Ordering, ints, sum_by-cons, sum_by-append, total_by, if_so, size-plus, Literal, all_hold, Term, set_cmp, set_size, terms_cost, terms_total, terms_size, coefficient_of, in_front, with_addition, with_additions}
use Rattle.std.specs.declared.cmp.Ordering.TheVariants.{Less, Equal, Greater}
use Rattle.term_table.proofs.SetOrder.{same_set}

-- ---- the sum of the coefficients whose sets pass a test

abbrev pub weight : (List Literal → Bool) → List Term → ℤ
weight test ts = total_by (λ t. if_so (test t.0) t.1) ts

pub if_so-plus : (b : Bool) (c d : ℤ) → if_so b (c +ℤ d) ≡ if_so b c +ℤ if_so b d
if_so-plus true c d = refl
if_so-plus false c d = refl

pub weight-in_front : (test : List Literal → Bool) (ls : List Literal) (c : ℤ) (ts : List Term)
    → weight test (in_front ls c ts) ≡ if_so (test ls) c +ℤ weight test ts
weight-in_front test ls c ts = grind (arith, nat_tests, ints)

pub weight-with_addition : (test : List Literal → Bool) (ts : List Term) (ls : List Literal) (c : ℤ)
    → weight test (with_addition ts ls c) ≡ weight test ts +ℤ if_so (test ls) c
weight-with_addition test [] ls c = omega (arith, ints, weight-in_front test ls c [])
weight-with_addition test (t ∷ ts) ls c = go (set_cmp ls t.0) refl (weight-with_addition test ts ls c)
  where
    go : (o : Ordering) → set_cmp ls t.0 ≡ o
        → weight test (with_addition ts ls c) ≡ weight test ts +ℤ if_so (test ls) c
        → weight test (match_ordering o (in_front ls c (t ∷ ts)) (in_front t.0 (t.1 +ℤ c) ts) (t ∷ with_addition ts ls c))
        ≡ weight test (t ∷ ts) +ℤ if_so (test ls) c
    go Less e rest = omega (arith, ints, weight-in_front test ls c (t ∷ ts))
    go Equal e rest =
        let same = ap (λ ks. if_so (test ks) c) (sym (same_set ls t.0 e)) in
        let plus = if_so-plus (test t.0) t.1 c in
        omega (arith, ints, weight-in_front test t.0 (t.1 +ℤ c) ts, plus, same)
    go Greater e rest = omega (arith, ints)

pub weight-with_additions : (test : List Literal → Bool) (table ts : List Term)
    → weight test (with_additions table ts) ≡ weight test table +ℤ weight test ts
weight-with_additions test table [] = omega (arith, ints)
weight-with_additions test table (t ∷ ts) =
    let rest = weight-with_additions test (with_addition table t.0 t.1) ts in
    omega (arith, ints, rest, weight-with_addition test table t.0 t.1)

pub terms_cost-with_additions : (x : List Bool) (ts : List Term)
    → terms_cost x (with_additions [] ts) ≡ terms_cost x ts
terms_cost-with_additions x ts = omega (arith, ints, weight-with_additions (all_hold x) [] ts)

pub coefficient_of-with_additions : (ls : List Literal) (ts : List Term)
    → coefficient_of ls (with_additions [] ts) ≡ coefficient_of ls ts
coefficient_of-with_additions ls ts =
    omega (arith, ints, weight-with_additions (λ ks. is_eq (set_cmp ls ks)) [] ts)

-- ---- the sum of the sizes of the coefficients

pub terms_total-cons : (t : Term) (ts : List Term)
    → terms_total (t ∷ ts) ≡ unsigned_abs t.1 + terms_total ts
terms_total-cons t ts = sum_by-cons (λ (u : Term). unsigned_abs u.1) t ts

terms_total-in_front : (ls : List Literal) (c : ℤ) (ts : List Term)
    → terms_total (in_front ls c ts) ≤ unsigned_abs c + terms_total ts
terms_total-in_front ls c ts = grind (arith, nat_tests, terms_total-cons (ls, c) ts)

pub terms_total-with_addition : (ts : List Term) (ls : List Literal) (c : ℤ)
    → terms_total (with_addition ts ls c) ≤ terms_total ts + unsigned_abs c
terms_total-with_addition [] ls c = omega (arith, terms_total-in_front ls c [])
terms_total-with_addition (t ∷ ts) ls c =
    let rest = terms_total-with_addition ts ls c in
    grind (arith, nat_tests, ints, rest, terms_total-in_front, terms_total-cons, size-plus)

-- the additions to a table that isn't empty
pub terms_total-more : (table ts : List Term)
    → terms_total (with_additions table ts) ≤ terms_total table + terms_total ts
terms_total-more table [] = omega arith
terms_total-more table (t ∷ ts) =
    let rest = terms_total-more (with_addition table t.0 t.1) ts in
    omega (arith, rest, terms_total-with_addition, terms_total-cons)

pub terms_total-with_additions : (ts : List Term) → terms_total (with_additions [] ts) ≤ terms_total ts
terms_total-with_additions ts = omega (arith, terms_total-more [] ts)

pub terms_total-append : (ts us : List Term)
    → terms_total (ts ++ us) ≡ terms_total ts + terms_total us
terms_total-append ts us = sum_by-append (λ (t : Term). unsigned_abs t.1) ts us

-- ---- a sum over the sets

-- the sum of what a function gives for each set
abbrev pub sets_sum : (List Literal → ℕ) → List Term → ℕ
sets_sum f ts = sum_by (λ t. f t.0) ts

pub sets_sum-cons : (f : List Literal → ℕ) (t : Term) (ts : List Term)
    → sets_sum f (t ∷ ts) ≡ f t.0 + sets_sum f ts
sets_sum-cons f t ts = sum_by-cons (λ (u : Term). f u.0) t ts

sets_sum-in_front : (f : List Literal → ℕ) (ls : List Literal) (c : ℤ) (ts : List Term)
    → sets_sum f (in_front ls c ts) ≤ f ls + sets_sum f ts
sets_sum-in_front f ls c ts = grind (arith, nat_tests, sets_sum-cons f (ls, c) ts)

sets_sum-with_addition : (f : List Literal → ℕ) (ts : List Term) (ls : List Literal) (c : ℤ)
    → sets_sum f (with_addition ts ls c) ≤ sets_sum f ts + f ls
sets_sum-with_addition f [] ls c = omega (arith, sets_sum-in_front f ls c [])
sets_sum-with_addition f (t ∷ ts) ls c =
    grind (arith, nat_tests, ints, sets_sum-with_addition f ts ls c, sets_sum-in_front, sets_sum-cons)

sets_sum-more : (f : List Literal → ℕ) (table ts : List Term)
    → sets_sum f (with_additions table ts) ≤ sets_sum f table + sets_sum f ts
sets_sum-more f table [] = omega arith
sets_sum-more f table (t ∷ ts) =
    let rest = sets_sum-more f (with_addition table t.0 t.1) ts in
    omega (arith, rest, sets_sum-with_addition, sets_sum-cons)

-- each set of the table stands among the additions, once
pub sets_sum-with_additions : (f : List Literal → ℕ) (ts : List Term)
    → sets_sum f (with_additions [] ts) ≤ sets_sum f ts
sets_sum-with_additions f ts = omega (arith, sets_sum-more f [] ts)

-- ---- the sum of the squares of the degrees

pub terms_size-cons : (t : Term) (ts : List Term)
    → terms_size (t ∷ ts) ≡ set_size t.0 + terms_size ts
terms_size-cons t ts = sets_sum-cons set_size t ts

pub terms_size-with_addition : (ts : List Term) (ls : List Literal) (c : ℤ)
    → terms_size (with_addition ts ls c) ≤ terms_size ts + set_size ls
terms_size-with_addition ts ls c = sets_sum-with_addition set_size ts ls c

pub terms_size-with_additions : (ts : List Term) → terms_size (with_additions [] ts) ≤ terms_size ts
terms_size-with_additions ts = sets_sum-with_additions set_size ts
