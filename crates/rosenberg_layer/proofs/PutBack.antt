-- A term whose first two literals are replaced goes into the list of its first literal, or down.
use Rattle.rosenberg_layer.proofs.Common.{ints, ◌≡◌, ℕ, ◌<◌, ◌≤◌, Bool, true, false, not, cond, arith, refl, ap, ◌∙◌, List, [], ◌∷◌, ◌++◌, length, set, ℤ, pos, filter, nat_tests, get_or-set_same, length-set, Literal, Term, Pair, is_long, is_short, pair_of, term_at, lists_with}

-- the term that was put at a place
pub put_at : (ts ts' : List Term) (t : ℕ) (u : Term) → t < length ts → ts' ≡ set ts t u
    → term_at ts' t ≡ u
put_at ts ts' t u within new = ap (λ us. term_at us t) new ∙ get_or-set_same ts t u ([], pos 0) within

short-two : (u : Term) → length u.0 ≡ 2 → is_long u ≡ false
short-two u two = grind (arith, nat_tests)

-- a term of two literals
abbrev low_term : Literal → Literal → ℤ → Term
low_term p q c = (p ∷ q ∷ [], c)

two-literals : (u : Term) → length u.0 ≡ 2 → low_term (pair_of u.0).0 (pair_of u.0).1 u.1 ≡ u
two-literals (p ∷ q ∷ [], c) two = refl
two-literals ([], c) two = absurd (omega (arith, two))
two-literals (p ∷ [], c) two = absurd (omega (arith, two))
two-literals (p ∷ q ∷ r ∷ ls, c) two = absurd (omega (arith, two))

filter-short : (u : Term) (b : Bool) → is_long u ≡ b → filter is_short (u ∷ []) ≡ cond (not b) (u ∷ []) []
filter-short u b e = ap (λ c. cond (not c) (u ∷ []) []) e

pub three-long : (t : Term) → is_long t ≡ true → 3 ≤ length t.0
three-long t e = grind (arith, nat_tests)

-- one of two literals goes down
pub low_down : (u v : Term) (low low' : List Term) (pair : Pair) (c : ℤ) → v ≡ u → length v.0 ≡ 2
    → pair ≡ pair_of v.0 → c ≡ v.1 → low' ≡ low ++ (pair.0 ∷ pair.1 ∷ [], c) ∷ []
    → low' ≡ low ++ filter is_short (u ∷ [])
low_down u v low low' pair c same two is value new =
    grind (arith, nat_tests, ints, two-literals, filter-short, short-two)

-- there are as many lists as before
pub length_with : (lists : List (List ℕ)) (t : ℕ) (u : Term)
    → length (lists_with lists t u) ≡ length lists
length_with lists t u = grind (arith, nat_tests, length-set)
