use Rattle.penalty_layer.proofs.Common.{nat_tests, arith, ◌≡◌, ℤ, false, ◌∷◌, [], refl, List, length, get_or, sym, to_z-of_z, Literal, union_terms, fills_same, room_same}
use Rattle.penalty_layer.proofs.squares.add_union.Goals as goal

-- a list of one literal has its first one
lone : (ls : List Literal) → length ls ≡ 1 → ls ≡ get_or ls 0 (record { variable = 0; negated = false }) ∷ []
lone [] one = absurd (omega (arith, one))
lone (l ∷ []) one = refl
lone (l ∷ k ∷ ls) one = absurd (omega (arith, one))

-- the union of two sets of one literal is that of their first ones
first_ones : (ls ks : List Literal) (c d : ℤ) → length ls ≡ 1 → length ks ≡ 1 → d ≡ c
    → union_terms ls ks c
    ≡ union_terms (get_or ls 0 (record { variable = 0; negated = false }) ∷ [])
    (get_or ks 0 (record { variable = 0; negated = false }) ∷ []) d
first_ones ls ks c d one other same = λ i. union_terms (lone ls one i) (lone ks other i) (sym same i)

pub add_pair-requires : goal.add_pair-requires
add_pair-requires g c = grind (arith, nat_tests, room_same, first_ones, to_z-of_z)

pub returns-then-ks-eq1 : goal.returns-then-ks-eq1
returns-then-ks-eq1 g c = grind (arith, nat_tests, first_ones, to_z-of_z)

pub returns : goal.returns
returns g c = grind (arith, nat_tests, fills_same, to_z-of_z)
