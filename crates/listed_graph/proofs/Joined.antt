-- The numbers of joins stand for the parts themselves.
use Rattle.listed_graph.proofs.Common.{complete-below, nat_tests, ◌≡◌, ◌≢◌, ℕ, suc, ◌+◌, ◌*◌, ◌^◌, ◌<◌, ◌==◌, Bool, true, false, ◌&&◌, ◌||◌, List, [], ◌∷◌, ◌++◌, All, refl, ap, ◌∙◌, arith, list_any, IsPermutation, list_any-append, list_any-IsPermutation, Part, IsPart, is_coupler, joined_in, pair_number, joins_of_part, joins_of, has_join, EndsLow, most}
use Rattle.std.proofs.lemmas.Nat.{mod-mul-add}
use Rattle.std.proofs.Common.{subst, sym}
use Rattle.std.proofs.lemmas.List.Elements.{All-append, All-from_recursion}
use Rattle.std.proofs.lemmas.List.Sorted.{All-permutation}
use Rattle.part_lists.specs.declared.parts.Part.TheVariants.{Qubit, Coupler}

-- ---- which joins they are

pairs_same : (a b p q : ℕ) → a < 2 ^ 32 → b < 2 ^ 32 → p < 2 ^ 32 → q < 2 ^ 32
    → (pair_number a b == pair_number p q) ≡ ((a == p) && (b == q))
pairs_same a b p q low_a low_b low_p low_q = grind (arith, nat_tests)

turned : (a b p q : ℕ) → ((b == p) && (a == q)) ≡ ((a == q) && (b == p))
turned a b p q = grind (arith, nat_tests)

numbered_is : (p q : ℕ) → p < 2 ^ 32 → q < 2 ^ 32 → (part : Part) → IsPart part
    → has_join (joins_of_part part) p q ≡ is_coupler p q part
numbered_is p q low_p low_q (Qubit a) below = refl
numbered_is p q low_p low_q (Coupler a b) below =
    let low_a : a < 2 ^ 32 = omega (arith, complete-below a below.0) in
    let low_b : b < 2 ^ 32 = omega (arith, complete-below b below.1) in
    let one = pairs_same a b p q low_a low_b low_p low_q in
    let other = pairs_same b a p q low_b low_a low_p low_q ∙ turned a b p q in
    rw (one, other) (grind (arith, nat_tests))

any_numbered : (p q : ℕ) → p < 2 ^ 32 → q < 2 ^ 32 → (parts : List Part) → All IsPart parts
    → has_join (joins_of parts) p q ≡ joined_in parts p q
any_numbered p q low_p low_q [] all = refl
any_numbered p q low_p low_q (part ∷ parts) all =
    let first = numbered_is p q low_p low_q part (all 0 part (omega arith)) in
    let rest = any_numbered p q low_p low_q parts (λ k d low. all (suc k) d (omega (arith, low))) in
    rw (list_any-append, first, rest) refl

-- the same numbers in another order
pub any_moved : (parts : List Part) (from to : List ℕ) → All IsPart parts → from ≡ joins_of parts
    → IsPermutation from to → (p q : ℕ) → p < 2 ^ 32 → q < 2 ^ 32
    → has_join to p q ≡ joined_in parts p q
any_moved parts from to all is moved p q low_p low_q =
    let same = list_any-IsPermutation (λ n. n == pair_number p q) from to moved in
    cc (is, any_numbered p q low_p low_q parts all)

-- ---- where they lead

ends_of_part : (part : Part) → IsPart part → All EndsLow (joins_of_part part)
ends_of_part (Qubit a) kept = λ k d low. absurd (omega (arith, low))
ends_of_part (Coupler a b) kept =
    let one = mod-mul-add a (2 ^ 32) b (omega (arith, complete-below b kept.1)) in
    let other = mod-mul-add b (2 ^ 32) a (omega (arith, complete-below a kept.0)) in
    let low_a = complete-below a kept.0 in
    let low_b = complete-below b kept.1 in
    All-from_recursion EndsLow (joins_of_part (Coupler a b)) (omega (arith, one, low_b), (omega (arith, other, low_a), tt))

ends_of : (parts : List Part) → All IsPart parts → All EndsLow (joins_of parts)
ends_of [] kept = λ k d low. absurd (omega (arith, low))
ends_of (part ∷ parts) kept =
    All-append EndsLow (joins_of_part part) (joins_of parts) (ends_of_part part (kept 0 part (omega arith)))
    (ends_of parts (λ k d low. kept (suc k) d (omega (arith, low))))

pub ends_moved : (parts : List Part) (from to : List ℕ) → All IsPart parts → from ≡ joins_of parts
    → IsPermutation from to → All EndsLow to
ends_moved parts from to all is moved =
    All-permutation EndsLow from to moved (subst (All EndsLow) (sym is) (ends_of parts all))
