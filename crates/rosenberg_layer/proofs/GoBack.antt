-- Terms of different sets: a substitution keeps their sets different, and additions of such terms are summed to
-- these terms.
use Rattle.rosenberg_layer.proofs.Common.{all-filtered, ◌≡◌, ◌≢◌, ◌⊎◌, inl, inr, true, false, cond, rest_of, ◌||◌, not, ℕ, ◌+◌, ◌<◌, in_front, set_cmp, Bool, arith, refl, sym, ap, List, [], ◌∷◌, ◌++◌, length, drop, get_or, map, pos, ℤ, All, ⊤, AllByRecursion, filter, sum_by, sum_by-cons, IsStrictlySortedBy, nat_tests, length-append, recursion_from_All, All-from_recursion, Literal, Term, with_addition, with_additions, Ascends, IsTermSet, OfSet, IsNonzero, All-with_addition, Under, same_set, set_itself, node, Pair, has_pair, new_term, Within, begins}
use Rattle.std.specs.declared.cmp.Ordering.TheVariants.{Equal}
use Rattle.rosenberg_layer.proofs.PairTerms.{begins-is, new_term-front}

-- ---- what holds of all

pub all-append : {X : Type 0} (P : X → Type 0) (xs ys : List X) → AllByRecursion P xs
    → AllByRecursion P ys → AllByRecursion P (xs ++ ys)
all-append P [] ys a b = b
all-append P (x ∷ xs) ys a b = (a.0, all-append P xs ys a.1 b)

pub all-left : {X : Type 0} (P : X → Type 0) (xs ys : List X) → AllByRecursion P (xs ++ ys)
    → AllByRecursion P xs
all-left P [] ys all = tt
all-left P (x ∷ xs) ys all = (all.0, all-left P xs ys all.1)

pub all-right : {X : Type 0} (P : X → Type 0) (xs ys : List X) → AllByRecursion P (xs ++ ys)
    → AllByRecursion P ys
all-right P [] ys all = all
all-right P (x ∷ xs) ys all = all-right P xs ys all.1

-- ---- terms of different sets

abbrev pub Different : List Term → Type 0
Different [] = ⊤
Different (t ∷ ts) = AllByRecursion (λ u. u.0 ≢ t.0) ts × Different ts

not-under : (t : Term) (ts : List Term) → Under t.0 ts → AllByRecursion (λ u. u.0 ≢ t.0) ts
not-under t [] under = tt
not-under t (u ∷ us) under = grind (arith, nat_tests, not-under t us under.1, set_itself t.0)

pub Different-ascends : (ts : List Term) → Ascends ts → Different ts
unfolding IsStrictlySortedBy
Different-ascends [] ascends = tt
Different-ascends (t ∷ ts) ascends = (not-under t ts ascends.0, Different-ascends ts ascends.1)

pub Different-filter : (test : Term → Bool) (ts : List Term) → Different ts → Different (filter test ts)
Different-filter test [] apart = tt
Different-filter test (t ∷ ts) apart =
    let first = all-filtered (λ (u : Term). u.0 ≢ t.0) test ts apart.0 in
    grind (arith, nat_tests, Different-filter test ts apart.1)

-- ---- after a substitution

-- where the term has the pair, it begins with it
abbrev pub is_plain : Pair → Term → Bool
is_plain a t = not (has_pair a t) || begins a t.0

push_same : (w : Literal) (ls ks : List Literal) → ls ++ w ∷ [] ≡ ks ++ w ∷ [] → ls ≡ ks
push_same w [] [] e = refl
push_same w [] (k ∷ ks) e = absurd (omega (arith, ap length e, length-append ks (w ∷ [])))
push_same w (l ∷ ls) [] e = absurd (omega (arith, ap length e, length-append ls (w ∷ [])))
push_same w (l ∷ ls) (k ∷ ks) e = cc (push_same w ls ks (ap (drop 1) e), ap (λ ms. get_or ms 0 w) e)

not-within : (n : ℕ) (ls ks : List Literal) → Within n ks → ks ≡ ls ++ node n ∷ [] → ⊥
not-within n [] ks within e = let h = (rw e at within).0 in absurd (omega arith)
not-within n (l ∷ ls) ks within e = not-within n ls (ls ++ node n ∷ []) (rw e at within).1 refl

begins-drop : (pair : Pair) (ls : List Literal) → begins pair ls ≡ true
    → ls ≡ pair.0 ∷ pair.1 ∷ drop 2 ls
begins-drop pair ls e = let is = begins-is pair.0 pair.1 ls e in grind (arith, nat_tests)

new-is : (n : ℕ) (a : Pair) (t : Term) → IsTermSet n t.0 → is_plain a t ≡ true
    → ((new_term a (node n) t).0 ≡ t.0)
    ⊎ (((new_term a (node n) t).0 ≡ drop 2 t.0 ++ node n ∷ []) × (t.0 ≡ a.0 ∷ a.1 ∷ drop 2 t.0))
new-is n a t set p = go (has_pair a t) refl
  where
    begin : (has : Bool) → (not has || begins a t.0) ≡ true → has ≡ true → begins a t.0 ≡ true
    begin has q e = grind (arith, nat_tests)

    go : (b : Bool) → has_pair a t ≡ b → ((new_term a (node n) t).0 ≡ t.0)
        ⊎ (((new_term a (node n) t).0 ≡ drop 2 t.0 ++ node n ∷ []) × (t.0 ≡ a.0 ∷ a.1 ∷ drop 2 t.0))
    go false e = inl (ap (λ b. (cond b (rest_of a t.0 ++ node n ∷ [], t.1) t).0) e)
    go true e =
        let here = begin (has_pair a t) p e in
        inr (ap (λ (u : Term). u.0) (new_term-front n a (node n) t set e here), begins-drop a t.0 here)

new-apart : (n : ℕ) (a : Pair) (t u : Term) → IsTermSet n t.0 → IsTermSet n u.0 → is_plain a t ≡ true
    → is_plain a u ≡ true → u.0 ≢ t.0 → (new_term a (node n) u).0 ≢ (new_term a (node n) t).0
new-apart n a t u set also p q apart e =
    let one = new-is n a t set p in
    let two = new-is n a u also q in
    let same = push_same (node n) (drop 2 u.0) (drop 2 t.0) in
    let not-t = not-within n (drop 2 u.0) t.0 (recursion_from_All (λ l. l.variable < n) t.0 set.set.within) in
    let not-u = not-within n (drop 2 t.0) u.0 (recursion_from_All (λ l. l.variable < n) u.0 also.set.within) in
    grind (arith, nat_tests)

pub Different-new : (n : ℕ) (a : Pair) (ts : List Term) → AllByRecursion (OfSet (IsTermSet n)) ts
    → AllByRecursion (λ t. is_plain a t ≡ true) ts → Different ts
    → Different (map (new_term a (node n)) ts)
Different-new n a [] sets plain apart = tt
Different-new n a (t ∷ ts) sets plain apart =
    (others ts sets.1 plain.1 apart.0, Different-new n a ts sets.1 plain.1 apart.1)
  where
    others : (us : List Term) → AllByRecursion (OfSet (IsTermSet n)) us
        → AllByRecursion (λ t. is_plain a t ≡ true) us → AllByRecursion (λ u. u.0 ≢ t.0) us
        → AllByRecursion (λ u. u.0 ≢ (new_term a (node n) t).0) (map (new_term a (node n)) us)
    others [] sets' plain' apart' = tt
    others (u ∷ us) sets' plain' apart' = (
      new-apart n a t u sets.0 sets'.0 plain.0 plain'.0 apart'.0,
      others us sets'.1 plain'.1 apart'.1,
    )

pub nonzero-new : (a : Pair) (w : Literal) (ts : List Term) → AllByRecursion IsNonzero ts
    → AllByRecursion IsNonzero (map (new_term a w) ts)
nonzero-new a w [] some = tt
nonzero-new a w (t ∷ ts) some = grind (arith, nat_tests, nonzero-new a w ts some.1)

-- ---- additions of different sets

sum-front : (f : Term → ℕ) (ls : List Literal) (c : ℤ) (ts : List Term) → c ≢ pos 0
    → sum_by f (in_front ls c ts) ≡ f (ls, c) + sum_by f ts
sum-front f ls c ts some = grind (arith, nat_tests, sum_by-cons)

-- one of a set that is not there
sum-fresh : (f : Term → ℕ) (ts : List Term) (ls : List Literal) (c : ℤ) → c ≢ pos 0
    → AllByRecursion (λ t. t.0 ≢ ls) ts → sum_by f (with_addition ts ls c) ≡ f (ls, c) + sum_by f ts
sum-fresh f [] ls c some fresh = sum-front f ls c [] some
sum-fresh f (u ∷ us) ls c some fresh =
    let rest = sum-fresh f us ls c some fresh.1 in
    let first = sum-front f ls c (u ∷ us) some in
    let other = λ (e : set_cmp ls u.0 ≡ Equal). fresh.0 (sym (same_set ls u.0 e)) in
    grind (arith, nat_tests, sum_by-cons)

still-fresh : (table : List Term) (t : Term) (us : List Term) → AllByRecursion (λ u. u.0 ≢ t.0) us
    → AllByRecursion (λ (u : Term). All (λ v. v.0 ≢ u.0) table) us
    → AllByRecursion (λ (u : Term). All (λ v. v.0 ≢ u.0) (with_addition table t.0 t.1)) us
still-fresh table t [] apart fresh = tt
still-fresh table t (u ∷ us) apart fresh = (
  All-with_addition (λ ks. ks ≢ u.0) table t.0 t.1 fresh.0 (λ e. apart.0 (sym e)),
  still-fresh table t us apart.1 fresh.1,
)

sum-more : (f : Term → ℕ) (table ts : List Term) → Different ts → AllByRecursion IsNonzero ts
    → AllByRecursion (λ (u : Term). All (λ v. v.0 ≢ u.0) table) ts
    → sum_by f (with_additions table ts) ≡ sum_by f table + sum_by f ts
sum-more f table [] apart some fresh = omega arith
sum-more f table (t ∷ ts) apart some fresh =
    let one = sum-fresh f table t.0 t.1 some.0 (recursion_from_All (λ (v : Term). v.0 ≢ t.0) table fresh.0) in
    let rest =
    sum-more f (with_addition table t.0 t.1) ts apart.1 some.1 (still-fresh table t ts apart.0 fresh.1) in
    omega (arith, one, rest, sum_by-cons f t ts)

-- they are summed to the same terms
pub sum-different : (f : Term → ℕ) (ts : List Term) → Different ts → AllByRecursion IsNonzero ts
    → sum_by f (with_additions [] ts) ≡ sum_by f ts
sum-different f ts apart some = omega (arith, sum-more f [] ts apart some (none ts))
  where
    none : (us : List Term) → AllByRecursion (λ (u : Term). All (λ (v : Term). v.0 ≢ u.0) []) us
    none [] = tt
    none (u ∷ us) = (All-from_recursion (λ (v : Term). v.0 ≢ u.0) [] tt, none us)
