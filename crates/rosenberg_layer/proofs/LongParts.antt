-- The terms of degree 3 or more of a table, after each turn of a run.
use Rattle.rosenberg_layer.proofs.Common.{nat_tests, ◌≡◌, ℕ, ◌+◌, ◌≤◌, ◌^◌, Bool, true, arith, ap, ◌∙◌, List, [], ◌∷◌, ◌++◌, map, Some, unsigned_abs, All, filter, AllByRecursion, append_assoc, filter-append, recursion_from_All, Literal, Term, terms_total, IsTermSet, TableContent, terms_total-append, terms_total-cons, OfSet, Pair, node, is_long, new_term, front_pair, substituted, after_turn, long_part, found, new_terms-sets, pair_differs, IsPair, term_after, Option, None, refl}
use Rattle.rosenberg_layer.proofs.Parts.{filter-all, long-replaced}

-- a turn on the long terms alone gives those of the next table
pub long-turn : (t : TableContent)
    → long_part (substituted t) ≡ after_turn (front_pair (filter is_long t.terms)) (long_part t)
long-turn t = grind (arith, nat_tests, long-replaced)

-- ---- the pair of a turn

-- the pair that comes first is of two variables of the table
pub pair_is : (n : ℕ) (pair : Pair) (ts : List Term) → AllByRecursion (OfSet (IsTermSet n)) ts
    → All (λ t. is_long t ≡ true) ts → front_pair ts ≡ Some pair → IsPair n pair
pair_is n pair ts sets high e =
    (found n ts pair sets
    (ap front_pair (filter-all is_long ts (recursion_from_All (λ t. is_long t ≡ true) ts high)) ∙ e)).is_pair

-- a set of the table's width is one of the next table's width once the pair is replaced
pub set_after : (n : ℕ) (pair : Pair) (t : Term) → IsPair n pair → IsTermSet n t.0
    → IsTermSet (n + 1) (new_term pair (node n) t).0
set_after n pair t ok set = (new_terms-sets n pair (t ∷ []) (pair_differs n pair ok) (set, tt)).0

-- ---- one term more

-- what passes a test, so far and of what is left
pub passed_more : {X : Type 0} (test : X → Bool) (now next : List X) (x : X) (left rest whole : List X)
    → left ≡ x ∷ rest → next ≡ now ++ filter test (x ∷ []) → now ++ filter test left ≡ whole
    → next ++ filter test rest ≡ whole
passed_more test now next x left rest whole e added so_far =
    grind (arith, nat_tests, append_assoc, filter-append)

-- the sizes of the coefficients fit
pub total_more : (now next more : List Term) (t : Term) (left rest : List Term) → left ≡ t ∷ rest
    → next ≡ now ++ more → terms_total more ≤ unsigned_abs t.1
    → terms_total now + terms_total left ≤ 2 ^ 124 → terms_total next + terms_total rest ≤ 2 ^ 124
total_more now next more t left rest e added few so_far =
    grind (arith, nat_tests, terms_total-cons, terms_total-append)

-- what becomes of a term counts no more than it did
pub total-after : (o : Option Pair) (w : Literal) (t : Term)
    → terms_total (filter is_long (term_after o w t ∷ [])) ≤ unsigned_abs t.1
total-after None w t = grind (arith, nat_tests)
total-after (Some pair) w t = grind (arith, nat_tests)

-- nothing becomes of terms where there is no pair
pub none-after : (w : Literal) (ts : List Term) → map (term_after None w) ts ≡ ts
none-after w [] = refl
none-after w (t ∷ ts) = ap (λ us. t ∷ us) (none-after w ts)
