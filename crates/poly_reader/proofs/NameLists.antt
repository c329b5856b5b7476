-- Lists of names as they are lent, and of their literals.
use Rattle.poly_reader.proofs.Common.{nat_tests, ◌≡◌, ◌<◌, ◌≤◌, ℕ, Bool, true, false, not, cond, ◌||◌, ◌+◌, List, [], ◌∷◌, ◌++◌, All, refl, ap, arith, bytes_eq, Bor, list_any, position_or_len, map-append, All-push, insert_key, Literal, is_name, AreNames, with_name, number_of, names_lent}

-- ---- lent names

-- the same bytes
abbrev pub lent_eq : Bor (List ℕ) → Bor (List ℕ) → Bool
lent_eq a b = bytes_eq a.now b.now

any_lent : (names : List (Bor (List ℕ))) (name : Bor (List ℕ))
    → list_any (lent_eq name) names ≡ list_any (bytes_eq name.now) (names_lent names)
any_lent [] name = refl
any_lent (n ∷ ns) name = ap (λ b. bytes_eq name.now n.now || b) (any_lent ns name)

pub number_of-lent : (names : List (Bor (List ℕ))) (name : Bor (List ℕ))
    → position_or_len (lent_eq name) names ≡ number_of (names_lent names) name.now
number_of-lent [] name = refl
number_of-lent (n ∷ ns) name =
    ap (λ k. cond (not (bytes_eq name.now n.now)) (1 + k) 0) (number_of-lent ns name)

pub with_name-lent : (names : List (Bor (List ℕ))) (name : Bor (List ℕ))
    → names_lent (insert_key lent_eq names name) ≡ with_name (names_lent names) name.now
with_name-lent names name = grind (arith, nat_tests, any_lent, map-append)

-- a name behind names, where it is none of them
pub with_name-form : (names : List (List ℕ)) (name : List ℕ) → is_name name ≡ true → AreNames names → AreNames (with_name names name)
with_name-form names name one all = by_test (list_any (bytes_eq name) names)
  where
    by_test : (b : Bool) → AreNames (cond b names (names ++ name ∷ []))
    by_test true = all
    by_test false = All-push (λ n. is_name n ≡ true) names name all one

-- ---- literals of so many variables, and one more

pub within_pushed : (v w : ℕ) (ls : List Literal) (l : Literal) → v ≤ w
    → All (λ k. k.variable < v) ls → l.variable < w → All (λ k. k.variable < w) (ls ++ l ∷ [])
within_pushed v w ls l le h one =
    All-push (λ k. k.variable < w) ls l (λ i d i_less. omega (arith, le, h i d i_less)) one
