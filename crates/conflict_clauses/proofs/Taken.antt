-- A constraint that is taken to be replaced: what it wants, and of which variables.
use Rattle.conflict_clauses.proofs.Common.{IsCoverTaken, false, false≢true, is_cover, All-filter, nat_tests, ◌≡◌, ℕ, zero, suc, ◌+◌, ◌<◌, ◌≤◌, Bool, true, not, leb, refl, sym, ap, ◌∙◌, arith, subst, List, [], ◌∷◌, ◌++◌, map, Some, ℤ, pos, negsuc, All, filter, list_all, slice_get, sum_by, and_parts, All-cons, All-head, All-map, All-nil, All-tail, All-weaker, sum_by-cons, Literal, Product, Constraint, IsNormalProduct, is_conflict, is_needed, is_single, most_pairs, pairs, pairs_of, wanted, is_negative, turned_literal, beq, Found, AreWithin, IsFound, IsTaken, alone}
use Rattle.conflict_clauses.proofs.Giving.{cover_literals}
use Rattle.conflict_clauses.proofs.Missing.{parts_of}

-- ---- an element at a place

pub at_place : {A : Type 0} (P : A → Type 0) (xs : List A) (i : ℕ) (x : A) → slice_get xs i ≡ Some x
    → All P xs → P x
at_place P [] i x at h = cc
at_place P (y ∷ xs) zero x at h = let same : y ≡ x = cc in subst P same (All-head P y xs h)
at_place P (y ∷ xs) (suc i) x at h = at_place P xs i x at (All-tail P y xs h)

pub size_at_place : {A : Type 0} (f : A → ℕ) (xs : List A) (i : ℕ) (x : A) → slice_get xs i ≡ Some x
    → f x ≤ sum_by f xs
size_at_place f [] i x at = cc
size_at_place f (y ∷ xs) zero x at = grind (arith, nat_tests, sum_by-cons)
size_at_place f (y ∷ xs) (suc i) x at = omega (arith, size_at_place f xs i x at, sum_by-cons f y xs)

-- ---- variables

wanted_within : (variables : ℕ) (t : Product) → IsNormalProduct variables t
    → AreWithin variables (wanted true t)
wanted_within variables t normal =
    let Below : Literal → Type 0 = λ l. l.variable < variables in
    All-map Below (turned_literal (beq (is_negative t) true)) t.literals normal.set.within

all_within : (variables : ℕ) (ts : List Product) → All (IsNormalProduct variables) ts
    → All (AreWithin variables) (map (wanted true) ts)
all_within variables ts normal =
    let Within : Product → Type 0 = λ t. AreWithin variables (wanted true t) in
    All-map (AreWithin variables) (wanted true) ts
    (All-weaker (IsNormalProduct variables) Within (wanted_within variables) ts normal)

alone_within : (variables : ℕ) (ls : List Literal) → All (AreWithin variables) (map alone ls)
    → AreWithin variables ls
alone_within variables [] h = All-nil (λ l. l.variable < variables)
alone_within variables (l ∷ ls) h =
    let Below : Literal → Type 0 = λ m. m.variable < variables in
    All-cons Below l ls
    (All-head Below l [] (All-head (AreWithin variables) (l ∷ []) (map alone ls) h))
    (alone_within variables ls (All-tail (AreWithin variables) (l ∷ []) (map alone ls) h))

literals_within : (variables : ℕ) (ls : List Literal) (q : Product → Bool) (ts : List Product)
    → All (IsNormalProduct variables) ts → map alone ls ≡ map (wanted true) (filter q ts)
    → AreWithin variables ls
literals_within variables ls q ts normal same =
    let AllWithin : List (List Literal) → Type 0 = All (AreWithin variables) in
    alone_within variables ls (subst AllWithin (sym same)
    (all_within variables (filter q ts) (All-filter q (IsNormalProduct variables) ts normal)))

-- ---- the answers

pub taken-bound : (variables spent : ℕ) (k : Constraint) (as' os : List Literal) (n : ℕ)
    → IsTaken variables spent k as' os n → spent + n ≤ most_pairs
taken-bound variables spent k as' os n t = grind (arith, nat_tests)

pub taken : (variables spent : ℕ) (k : Constraint) (f : Found) (as' os : List Literal)
    → IsFound spent k f → All (IsNormalProduct variables) k.products
    → map alone as' ≡ map (wanted true) (filter (is_needed f.room) k.products)
    → map alone os ≡ map (wanted true) (filter (λ t. not (is_needed f.room t)) k.products)
    → IsTaken variables spent k as' os f.pairs
taken variables spent k f as' os h normal alones pairs' = record {
  replaced = h.replaced;
  counted = h.pairs;
  lists = (λ i. alones i ++ pairs_of (pairs' i))
      ∙ ap (λ m. map (wanted true) (filter (is_needed m) k.products)
      ++ pairs_of (map (wanted true) (filter (λ t. not (is_needed m t)) k.products))) h.room;
  alones_within = literals_within variables as' (is_needed f.room) k.products normal alones;
  others_within =
      literals_within variables os (λ t. not (is_needed f.room t)) k.products normal pairs';
}

-- its products are of one literal each
pub found_single : (spent : ℕ) (k : Constraint) (f : Found) → IsFound spent k f
    → list_all is_single k.products ≡ true
found_single spent k f h =
    (parts_of k (and_parts (is_conflict k) (leb (spent + pairs k) most_pairs) h.replaced).0).single

-- ---- a cover

-- two elements at one place are the same
pub same_element : {A : Type 0} (xs : List A) (i : ℕ) (x y : A) → slice_get xs i ≡ Some x
    → slice_get xs i ≡ Some y → x ≡ y
same_element xs i x y at at' = let both = sym at ∙ at' in cc

pub cover_taken : (variables : ℕ) (k : Constraint) (ls : List Literal) → is_cover k ≡ true
    → All (IsNormalProduct variables) k.products
    → map alone ls ≡ map (wanted true) (filter (is_needed 0) k.products)
    → IsCoverTaken variables k ls true
cover_taken variables k ls cover normal same = record {
  told = sym cover;
  lists = λ e. cover_literals k ls cover same;
  within = λ e. literals_within variables ls (is_needed 0) k.products normal same;
}

pub no_cover : (variables : ℕ) (k : Constraint) (ls : List Literal) → is_cover k ≡ false
    → IsCoverTaken variables k ls false
no_cover variables k ls none = record {
  told = sym none;
  lists = λ e. absurd (false≢true e);
  within = λ e. absurd (false≢true e);
}
