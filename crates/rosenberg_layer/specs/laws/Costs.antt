-- One substitution never lowers a cost, and keeps it where the new node is the product of the pair.
-- Nothing here has to be believed.
use Rattle.std.specs.Prelude.{◌||◌, ◌*◌, ◌≡◌, ◌+◌, ◌&&◌, ◌∷◌, ◌++◌, ◌+ℤ◌, ◌≤ℤ◌}
use Rattle.rosenberg_layer.specs.laws.Common.{sym, not, if_so, neg_ℤ, ℕ, Bool, true, false, cond, List, [], map, pos, unsigned_abs, filter, slice_index_or, is_eq, ordering_then, Ordering, Equal, arith, ap, ◌∙◌, refl, inl, inr, ints, total_by-append, Literal, holds, all_hold, literal_cmp, Term, term_cost, terms_cost, terms_total-cons, same_set, Pair, is_literal, has_literal, without, has_pair, new_term, pair_total, tie_terms, replaced, nat_tests}
use Rattle.rosenberg_layer.specs.laws.Ties.{tie, tie-zero, tie-apart, same_or_not, other_factor}

-- ---- a literal taken out of a set

from_is_eq : (o : Ordering) → is_eq o ≡ true → o ≡ Equal
from_is_eq o h = grind (arith, nat_tests)

-- literals that compare as equal are one literal
pub literal_same : (l k : Literal) → is_literal l k ≡ true → l ≡ k
literal_same l k h =
    let one = same_set (l ∷ []) (k ∷ [])
    (ap (λ o. ordering_then o Equal) (from_is_eq (literal_cmp l k) h)) in
    ap (λ ls. slice_index_or ls 0 l) one

and_turned : (a b c : Bool) → (a && (b && c)) ≡ (b && (a && c))
and_turned a b c = grind (arith, nat_tests)

and_once : (a b : Bool) → (a && (a && b)) ≡ (a && b)
and_once a b = grind (arith, nat_tests)

hold-without_and : (y : List Bool) (l : Literal) (ls : List Literal)
    → (holds y l && all_hold y ls) ≡ (holds y l && all_hold y (without l ls))
hold-without_and y l [] = refl
hold-without_and y l (k ∷ ks) =
    go (is_literal l k) (literal_same l k) (hold-without_and y l ks)
  where
    go : (t : Bool) → (t ≡ true → l ≡ k)
        → (holds y l && all_hold y ks) ≡ (holds y l && all_hold y (without l ks))
        → (holds y l && (holds y k && all_hold y ks))
        ≡ (holds y l && all_hold y (cond (not t) (k ∷ without l ks) (without l ks)))
    go true f r =
        ap (λ k. holds y l && (holds y k && all_hold y ks)) (sym (f refl))
        ∙ and_once (holds y l) (all_hold y ks)
        ∙ r
    go false f r =
        and_turned (holds y l) (holds y k) (all_hold y ks)
        ∙ ap (λ b. holds y k && b) r
        ∙ and_turned (holds y k) (holds y l) (all_hold y (without l ks))

hold-has : (y : List Bool) (l : Literal) (ls : List Literal) → has_literal l ls ≡ true
    → all_hold y ls ≡ (holds y l && all_hold y ls)
hold-has y l [] h = cc
hold-has y l (k ∷ ks) h = go (is_literal l k) h (literal_same l k) (hold-has y l ks)
  where
    go : (t : Bool) → (t || has_literal l ks) ≡ true → (t ≡ true → l ≡ k)
        → (has_literal l ks ≡ true → all_hold y ks ≡ (holds y l && all_hold y ks))
        → (holds y k && all_hold y ks) ≡ (holds y l && (holds y k && all_hold y ks))
    go true e f r =
        sym (and_once (holds y k) (all_hold y ks))
        ∙ ap (λ z. holds y z && (holds y k && all_hold y ks)) (sym (f refl))
    go false e f r =
        ap (λ b. holds y k && b) (r e) ∙ and_turned (holds y k) (holds y l) (all_hold y ks)

hold-taken_out : (y : List Bool) (l : Literal) (ls : List Literal) → has_literal l ls ≡ true
    → all_hold y ls ≡ (holds y l && all_hold y (without l ls))
hold-taken_out y l ls h = hold-has y l ls h ∙ hold-without_and y l ls

-- another literal is still there
pub has-without : (p q : Literal) (ls : List Literal) → is_literal q p ≡ false
    → has_literal p ls ≡ true → has_literal p (without q ls) ≡ true
has-without p q [] n h = cc
has-without p q (k ∷ ks) n h =
    go (is_literal p k) (is_literal q k) h (λ e. ap (is_literal q) (sym (literal_same p k e)) ∙ n)
    refl (has-without p q ks n)
  where
    go : (a b : Bool) → (a || has_literal p ks) ≡ true → (a ≡ true → b ≡ false)
        → is_literal p k ≡ a
        → (has_literal p ks ≡ true → has_literal p (without q ks) ≡ true)
        → has_literal p (cond (not b) (k ∷ without q ks) (without q ks)) ≡ true
    go true true e f g r = let c = f refl in cc
    go true false e f g r = ap (λ t. t || has_literal p (without q ks)) g
    go false true e f g r = r e
    go false false e f g r = ap (λ t. t || has_literal p (without q ks)) g ∙ r e

hold-push : (y : List Bool) (ls : List Literal) (w : Literal)
    → all_hold y (ls ++ w ∷ []) ≡ (holds y w && all_hold y ls)
hold-push y [] w = refl
hold-push y (l ∷ ls) w = grind (arith, nat_tests, hold-push y ls w)

-- ---- one term

-- what is left of a set
abbrev pub rest_of : Pair → List Literal → List Literal
rest_of pair ls = without pair.0 (without pair.1 ls)

-- both of the pair hold
abbrev pub product : List Bool → Pair → Bool
product y pair = holds y pair.0 && holds y pair.1

-- the literals of the pair differ
abbrev pub Differ : Pair → Type 0
Differ pair = is_literal pair.1 pair.0 ≡ false

and_group : (p q r : Bool) → (q && (p && r)) ≡ ((p && q) && r)
and_group p q r = grind (arith, nat_tests)

-- where three bits are all 1, so are the last two
pub three_true : (a b c : Bool) → (a && (b && c)) ≡ true → (b ≡ true) × (c ≡ true)
three_true a b c h = grind (arith, nat_tests)

-- a set that has both is the pair's product and what is left
hold-pair : (y : List Bool) (pair : Pair) (t : Term) → Differ pair → has_pair pair t ≡ true
    → all_hold y t.0 ≡ (product y pair && all_hold y (rest_of pair t.0))
hold-pair y pair t n h =
    let both = three_true _ _ _ h in
    hold-taken_out y pair.1 t.0 both.1
    ∙ ap (λ b. holds y pair.1 && b)
    (hold-taken_out y pair.0 (without pair.1 t.0) (has-without pair.0 pair.1 t.0 n both.0))
    ∙ and_group (holds y pair.0) (holds y pair.1) (all_hold y (rest_of pair t.0))

term-le : (y : List Bool) (pair : Pair) (w : Literal) (t : Term) → Differ pair
    → term_cost y t
    ≤ℤ (term_cost y (new_term pair w t) +ℤ pos (cond (has_pair pair t) (unsigned_abs t.1) 0))
term-le y pair w t n = go (has_pair pair t) (hold-pair y pair t n)
  where
    go : (k : Bool)
        → (k ≡ true → all_hold y t.0 ≡ (product y pair && all_hold y (rest_of pair t.0)))
        → term_cost y t
        ≤ℤ (term_cost y (cond k (rest_of pair t.0 ++ w ∷ [], t.1) t)
        +ℤ pos (cond k (unsigned_abs t.1) 0))
    go true f =
        rw (f refl, hold-push y (rest_of pair t.0) w)
        (other_factor (product y pair) (holds y w) (all_hold y (rest_of pair t.0)) t.1)
    go false f = omega (arith, ints)

term-same : (y : List Bool) (pair : Pair) (w : Literal) (t : Term) → Differ pair
    → holds y w ≡ product y pair → term_cost y t ≡ term_cost y (new_term pair w t)
term-same y pair w t n s =
    let is = hold-pair y pair t n in
    let push = hold-push y (rest_of pair t.0) w in
    grind (arith, nat_tests)

-- ---- all terms

-- one term more adds the size of its coefficient where it has the pair, and else nothing
pub pair_total-cons : (pair : Pair) (t : Term) (ts : List Term)
    → pair_total pair (t ∷ ts) ≡ cond (has_pair pair t) (unsigned_abs t.1) 0 + pair_total pair ts
pair_total-cons pair t ts =
    let more = terms_total-cons t (filter (has_pair pair) ts) in grind (arith, nat_tests)

terms-le : (y : List Bool) (pair : Pair) (w : Literal) (ts : List Term) → Differ pair
    → terms_cost y ts ≤ℤ (terms_cost y (map (new_term pair w) ts) +ℤ pos (pair_total pair ts))
terms-le y pair w [] n = omega (arith, ints)
terms-le y pair w (t ∷ ts) n =
    omega (
      arith,
      ints,
      term-le y pair w t n,
      terms-le y pair w ts n,
      pair_total-cons pair t ts,
    )

terms-same : (y : List Bool) (pair : Pair) (w : Literal) (ts : List Term) → Differ pair
    → holds y w ≡ product y pair → terms_cost y ts ≡ terms_cost y (map (new_term pair w) ts)
terms-same y pair w [] n s = refl
terms-same y pair w (t ∷ ts) n s =
    λ i. term-same y pair w t n s i +ℤ terms-same y pair w ts n s i

cost-tie_terms : (y : List Bool) (pair : Pair) (w : Literal) (m : ℕ)
    → terms_cost y (tie_terms pair w m) ≡ tie m (holds y pair.0) (holds y pair.1) (holds y w)
cost-tie_terms y pair w m = go (holds y pair.0) (holds y pair.1) (holds y w)
  where
    go : (a b c : Bool)
        → if_so (a && (b && true)) (pos m)
        +ℤ (if_so (a && (c && true)) (neg_ℤ (pos (2 * m)))
        +ℤ (if_so (b && (c && true)) (neg_ℤ (pos (2 * m)))
        +ℤ (if_so (c && true) (pos (3 * m)) +ℤ pos 0)))
        ≡ tie m a b c
    go true true true = omega (arith, ints)
    go true true false = omega (arith, ints)
    go true false true = omega (arith, ints)
    go true false false = omega (arith, ints)
    go false true true = omega (arith, ints)
    go false true false = omega (arith, ints)
    go false false true = omega (arith, ints)
    go false false false = omega (arith, ints)

-- the cost is kept where the node is the product of the pair
pub replaced-same : (y : List Bool) (pair : Pair) (w : Literal) (ts : List Term) → Differ pair
    → holds y w ≡ product y pair → terms_cost y ts ≡ terms_cost y (replaced pair w ts)
replaced-same y pair w ts n s =
    let m = pair_total pair ts in
    let zero : tie m (holds y pair.0) (holds y pair.1) (holds y w) ≡ pos 0 =
    rw s (tie-zero m (holds y pair.0) (holds y pair.1)) in
    omega (
      arith,
      ints,
      terms-same y pair w ts n s,
      total_by-append (term_cost y) (map (new_term pair w) ts) (tie_terms pair w m),
      cost-tie_terms y pair w m,
      zero,
    )

-- .. and no state costs less
pub replaced-le : (y : List Bool) (pair : Pair) (w : Literal) (ts : List Term) → Differ pair
    → terms_cost y ts ≤ℤ terms_cost y (replaced pair w ts)
replaced-le y pair w ts n =
    let m = pair_total pair ts in
    let both = total_by-append (term_cost y) (map (new_term pair w) ts) (tie_terms pair w m) in
    let tied = cost-tie_terms y pair w m in
    elim (same_or_not (holds y w) (product y pair)) [
      | inl s ↦ omega (arith, ints, replaced-same y pair w ts n s)
      | inr d ↦
          let apart = tie-apart m (holds y pair.0) (holds y pair.1) (holds y w) d in
          omega (arith, ints, terms-le y pair w ts n, apart, both, tied)
    ]
