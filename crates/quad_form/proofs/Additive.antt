-- Sums over terms of what is additive in the coefficient: a table of sums has that of the additions.
--
-- What terms give a set, multiplied out, is such a sum.
use Rattle.quad_form.proofs.Common.{nat_tests, ◌≡◌, arith, sym, ap, refl, List, [], ◌∷◌, ℤ, pos, ◌+ℤ◌, match_ordering, Ordering, ints, Decides-int_eq, total_by, Literal, Term, set_cmp, in_front, with_addition, with_additions, same_set, Less, Equal, Greater}

-- ---- what is additive in the coefficient

-- a number for a set and a coefficient
abbrev pub Amount : Type 0
Amount = List Literal → ℤ → ℤ

abbrev pub IsAdditive : Amount → Type 0
IsAdditive f = (ls : List Literal) (c d : ℤ) → f ls (c +ℤ d) ≡ f ls c +ℤ f ls d

-- the sum over terms
abbrev pub given : Amount → List Term → ℤ
given f ts = total_by (λ t. f t.0 t.1) ts

additive-zero : (f : Amount) → IsAdditive f → (ls : List Literal) → f ls (pos 0) ≡ pos 0
additive-zero f plus ls =
    let twice : f ls (pos 0) ≡ f ls (pos 0) +ℤ f ls (pos 0) = plus ls (pos 0) (pos 0) in
    omega (arith, ints, twice)

given-in_front : (f : Amount) → IsAdditive f → (ls : List Literal) (c : ℤ) (ts : List Term)
    → given f (in_front ls c ts) ≡ f ls c +ℤ given f ts
given-in_front f plus ls c ts =
    grind (arith, ints, Decides-int_eq c (pos 0), additive-zero f plus ls)

given-with_addition : (f : Amount) → IsAdditive f → (ts : List Term) (ls : List Literal) (c : ℤ)
    → given f (with_addition ts ls c) ≡ given f ts +ℤ f ls c
given-with_addition f plus [] ls c = omega (arith, ints, given-in_front f plus ls c [])
given-with_addition f plus (t ∷ ts) ls c =
    go (set_cmp ls t.0) refl (given-with_addition f plus ts ls c)
  where
    go : (o : Ordering) → set_cmp ls t.0 ≡ o
        → given f (with_addition ts ls c) ≡ given f ts +ℤ f ls c
        → given f (match_ordering o (in_front ls c (t ∷ ts)) (in_front t.0 (t.1 +ℤ c) ts) (t ∷ with_addition ts ls c))
        ≡ given f (t ∷ ts) +ℤ f ls c
    go Less e rest = omega (arith, ints, given-in_front f plus ls c (t ∷ ts))
    go Equal e rest =
        let same : f t.0 c ≡ f ls c = ap (λ ks. f ks c) (sym (same_set ls t.0 e)) in
        omega (arith, ints, given-in_front f plus t.0 (t.1 +ℤ c) ts, plus t.0 t.1 c, same)
    go Greater e rest = omega (arith, ints)

given-more : (f : Amount) → IsAdditive f → (table ts : List Term)
    → given f (with_additions table ts) ≡ given f table +ℤ given f ts
given-more f plus table [] = omega (arith, ints)
given-more f plus table (t ∷ ts) =
    grind (arith, nat_tests, ints, given-more f plus (with_addition table t.0 t.1) ts, given-with_addition)

-- a table of sums has the sum of the additions
pub given-with_additions : (f : Amount) → IsAdditive f → (ts : List Term)
    → given f (with_additions [] ts) ≡ given f ts
given-with_additions f plus ts = omega (arith, ints, given-more f plus [] ts)
