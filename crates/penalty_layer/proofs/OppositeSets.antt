-- The complements of a literal set are a literal set.
--
-- In an ascending list without a literal beside its complement the variables ascend, so the order
-- does not depend on which literals are complements.
use Rattle.penalty_layer.proofs.Common.{or_parts, nat_tests, arith, ◌≡◌, ℕ, ◌<◌, Bool, false, not, ◌||◌, List, [], ◌∷◌, map, length, refl, ◌∙◌, list_any, AllByRecursion, IsStrictlySortedBy, length-map, beq, Literal, literal_cmp, are_opposite, has_clash, IsLiteralSet, opposite, All-map}
use Rattle.std.specs.declared.cmp.Ordering.TheVariants.{Less}

-- ---- two literals, the lesser first

-- of two literals that are not opposite, the complements stand in the same order
opposite_less : (l k : Literal) → are_opposite l k ≡ false → literal_cmp l k ≡ Less
    → literal_cmp (opposite l) (opposite k) ≡ Less
opposite_less l k apart less = grind (arith, nat_tests)

-- ---- a list of them

below_opposites : (l : Literal) (ks : List Literal) → list_any (are_opposite l) ks ≡ false
    → AllByRecursion (λ k. literal_cmp l k ≡ Less) ks
    → AllByRecursion (λ k. literal_cmp (opposite l) k ≡ Less) (map opposite ks)
below_opposites l [] apart less = tt
below_opposites l (k ∷ ks) apart less =
    let parts = or_parts _ _ apart in
    (opposite_less l k parts.0 less.0, below_opposites l ks parts.1 less.1)

clash_of_rest : (l : Literal) (ks : List Literal) → has_clash (l ∷ ks) ≡ false → has_clash ks ≡ false
clash_of_rest l ks e = fewer ks (or_parts _ _ e).1
  where
    fewer : (ms : List Literal) → list_any (λ m. list_any (are_opposite m) (l ∷ ks)) ms ≡ false
        → list_any (λ m. list_any (are_opposite m) ks) ms ≡ false
    fewer [] h = refl
    fewer (m ∷ ms) h = grind (arith, nat_tests, fewer ms)

clash_with_rest : (l : Literal) (ks : List Literal) → has_clash (l ∷ ks) ≡ false
    → list_any (are_opposite l) ks ≡ false
clash_with_rest l ks e = (or_parts _ _ (or_parts (list_any (are_opposite l) (l ∷ ks)) _ e).0).1

opposites_ordered : (ls : List Literal) → has_clash ls ≡ false
    → IsStrictlySortedBy literal_cmp ls → IsStrictlySortedBy literal_cmp (map opposite ls)
unfolding IsStrictlySortedBy
opposites_ordered [] apart sorted = tt
opposites_ordered (l ∷ ls) apart sorted = (
  below_opposites l ls (clash_with_rest l ls apart) sorted.0,
  opposites_ordered ls (clash_of_rest l ls apart) sorted.1,
)

-- ---- no clash comes up

not_both : (a b : Bool) → beq (not a) (not b) ≡ beq a b
not_both a b = grind (arith, nat_tests)

any_opposite : (l : Literal) (ks : List Literal)
    → list_any (are_opposite (opposite l)) (map opposite ks) ≡ list_any (are_opposite l) ks
any_opposite l [] = refl
any_opposite l (k ∷ ks) = grind (arith, nat_tests, not_both, any_opposite l ks)

clash_of_opposites : (ls : List Literal) → has_clash (map opposite ls) ≡ has_clash ls
clash_of_opposites ls = along ls
  where
    along : (ms : List Literal)
        → list_any (λ m. list_any (are_opposite m) (map opposite ls)) (map opposite ms)
        ≡ list_any (λ m. list_any (are_opposite m) ls) ms
    along [] = refl
    along (m ∷ ms) = λ i. any_opposite m ls i || along ms i

pub opposites_set : (n : ℕ) (ls : List Literal) → IsLiteralSet n ls → IsLiteralSet n (map opposite ls)
opposites_set n ls set = record {
  ordered = opposites_ordered ls set.apart set.ordered;
  apart = clash_of_opposites ls ∙ set.apart;
  within = All-map (λ (l : Literal). l.variable < n) opposite ls set.within;
}

pub opposites_length : (ls : List Literal) → length (map opposite ls) ≡ length ls
opposites_length ls = simp length-map
