-- A sum over the sets falls with a substitution, where it falls at each set that has the pair.
use Rattle.rosenberg_layer.proofs.Common.{◌≡◌, ℕ, ◌+◌, ◌-◌, ◌≤◌, Bool, true, cond, ◌&&◌, arith, List, [], ◌∷◌, ◌++◌, map, length, list_any, nat_tests, length-append, Literal, Term, sets_sum, sets_sum-cons, Pair, has_pair, new_term, rest_of, Differ, rest-shorter}

-- with the node in place of the pair, the function is less by k
abbrev pub Falls : (List Literal → ℕ) → ℕ → Pair → Literal → Type 0
Falls f k pair w = (t : Term) → has_pair pair t ≡ true → f (rest_of pair t.0 ++ w ∷ []) + k ≤ f t.0

one-le : (f : List Literal → ℕ) (k : ℕ) (pair : Pair) (w : Literal) (t : Term) → Falls f k pair w
    → f (new_term pair w t).0 + cond (has_pair pair t) k 0 ≤ f t.0
one-le f k pair w t falls = grind (arith, nat_tests)

all-le : (f : List Literal → ℕ) (k : ℕ) (pair : Pair) (w : Literal) (ts : List Term)
    → Falls f k pair w
    → sets_sum f (map (new_term pair w) ts) + cond (list_any (has_pair pair) ts) k 0 ≤ sets_sum f ts
all-le f k pair w [] falls = omega arith
all-le f k pair w (t ∷ ts) falls =
    grind (arith, nat_tests, all-le f k pair w ts falls, one-le, sets_sum, sets_sum-cons)

-- the sum falls where some set has the pair
pub sum-falls : (f : List Literal → ℕ) (k : ℕ) (pair : Pair) (w : Literal) (ts : List Term)
    → Falls f k pair w → list_any (has_pair pair) ts ≡ true
    → sets_sum f (map (new_term pair w) ts) + k ≤ sets_sum f ts
sum-falls f k pair w ts falls some = grind (arith, nat_tests, all-le f k pair w ts falls)

-- ---- degrees

pub and_left : (a b : Bool) → (a && b) ≡ true → a ≡ true
and_left a b e = grind (arith, nat_tests)

-- a term that has the pair has degree 3 or more
pub has_pair-long : (pair : Pair) (t : Term) → has_pair pair t ≡ true → 3 ≤ length t.0
has_pair-long pair t has = grind (arith, nat_tests)

-- .. and with the node in their place, a degree less by one
pub degree-falls : (pair : Pair) (w : Literal) (t : Term) → Differ pair → has_pair pair t ≡ true
    → length (rest_of pair t.0 ++ w ∷ []) + 1 ≤ length t.0
degree-falls pair w t differ has =
    omega (arith, rest-shorter pair t differ has, length-append (rest_of pair t.0) (w ∷ []))

pub excess-falls : (pair : Pair) (w : Literal) → Differ pair → Falls (λ ls. length ls - 2) 1 pair w
excess-falls pair w differ = λ t has.
    let high = has_pair-long pair t has in grind (arith, nat_tests, degree-falls)
