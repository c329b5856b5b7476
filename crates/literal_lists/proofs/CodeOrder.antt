-- Literals are ordered as their codes are.
use Rattle.literal_lists.proofs.Common.{arith, nat_tests, ◌≡◌, ℕ, List, [], ◌∷◌, map, refl, slice_cmp, nat_cmp, literal_cmp, literal_of}

code_order : (a b : ℕ) → literal_cmp (literal_of a) (literal_of b) ≡ nat_cmp a b
code_order a b = grind (arith, nat_tests)

pub codes_compared : (cs bs : List ℕ)
    → slice_cmp literal_cmp (map literal_of cs) (map literal_of bs) ≡ slice_cmp nat_cmp cs bs
codes_compared [] [] = refl
codes_compared [] (b ∷ bs) = refl
codes_compared (a ∷ cs) [] = refl
codes_compared (a ∷ cs) (b ∷ bs) = grind (arith, code_order a b, codes_compared cs bs)
