-- The joins of a listed graph go both ways, lead to other qubits of it, and are where the rows say.
-- Nothing here has to be believed.
use Rattle.std.specs.Prelude.{◌≡◌, ◌≢◌, ℕ, suc, ◌+◌, ◌*◌, ◌^◌, ◌%◌, ◌≤◌, ◌<◌, ◌==◌, Bool, true, false, ◌&&◌, ◌||◌, List, [], ◌∷◌, length, All, nat_le, not}
use Rattle.std.specs.List.{list_any, slice_index_or, position_or_len}
use Rattle.std.proofs.Common.{refl, arith, ap, sym, ◌∙◌, inl, inr}
use Rattle.std.proofs.Math.Bool.{or_comm}
use Rattle.std.proofs.lemmas.Bool.{eqb-true, cases_lt}
use Rattle.std.proofs.lemmas.Nat.{mod-mul-add}
use Rattle.std.proofs.lemmas.List.{get_or_default}
use Rattle.std.proofs.lemmas.Bool.Decides.{nat_tests}
use Rattle.std.proofs.lemmas.List.Folds.{Any-from_list_any}
use Rattle.std.proofs.lemmas.List.Sums.{fails_before_first, passes_at_first, prefix_len-le-length}
use Rattle.hardware.specs.declared.span.Span.{Span}
use Rattle.part_lists.specs.declared.parts.Part.{Part}
use Rattle.part_lists.specs.declared.parts.Part.TheVariants.{Qubit, Coupler}
use Rattle.part_lists.specs.Pairs.{is_coupler, pair_number, AreRising}
use Rattle.part_lists.specs.laws.Couplers.{is_coupler-comm}
use Rattle.listed_graph.specs.Complete.{IsPart}
use Rattle.listed_graph.specs.Parts.{is_named, beyond, qubits_of, exists_in, joined_in}
use Rattle.listed_graph.specs.Rows.{has_join, place_from, others_of, other_of, IsIndexed}
use Rattle.hardware.specs.Others.{IsOther, CanBeJoined}

-- ---- both ways

pub joined_in-comm : (parts : List Part) (a b : ℕ) → joined_in parts a b ≡ joined_in parts b a
joined_in-comm parts a b = λ i. list_any (λ part. is_coupler-comm a b part i) parts

-- ---- none to itself

coupler_self : (a : ℕ) (part : Part) → IsPart part → is_coupler a a part ≡ false
coupler_self a (Qubit c) kept = refl
coupler_self a (Coupler c d) kept =
    let apart = kept.2 in grind (arith, nat_tests)

pub joined_in-self : (parts : List Part) → All IsPart parts → (a : ℕ) → joined_in parts a a ≡ false
joined_in-self [] kept a = refl
joined_in-self (part ∷ parts) kept a =
    let first = coupler_self a part (kept 0 part (omega arith)) in
    let rest = joined_in-self parts (λ k d low. kept (suc k) d (omega (arith, low))) a in
    grind (arith, nat_tests, first, rest)

-- ---- of qubits that are named

coupler_names : (a b : ℕ) (part : Part) → is_coupler a b part ≡ true → is_named a part ≡ true
coupler_names a b (Qubit c) h = absurd cc
coupler_names a b (Coupler c d) h = grind (arith, nat_tests)

pub joined_in-exists : (parts : List Part) (a b : ℕ) → joined_in parts a b ≡ true → exists_in parts a ≡ true
joined_in-exists [] a b h = absurd cc
joined_in-exists (part ∷ parts) a b h =
    let first = coupler_names a b part in
    let rest = joined_in-exists parts a b in
    grind (arith, nat_tests)

-- a qubit that a part names is below what lies beyond it
pub named_beyond : (part : Part) (q : ℕ) → is_named q part ≡ true → q < beyond part
named_beyond (Qubit a) q h = grind (arith, nat_tests)
named_beyond (Coupler a b) q h = grind (arith, nat_tests)

pub exists_in-below : (parts : List Part) (q : ℕ) → exists_in parts q ≡ true → q < qubits_of parts
exists_in-below [] q h = absurd cc
exists_in-below (part ∷ parts) q h =
    let first = named_beyond part q in
    let rest = exists_in-below parts q in
    grind (arith, nat_tests)

-- ---- where the rows say

-- the join at a place of the rows is among those of its qubit
reached_at : (joins : List ℕ) (a b k : ℕ) → AreRising joins → b < 2 ^ 32 → k < length joins
    → slice_index_or joins k 0 ≡ pair_number a b → IsOther (others_of joins a) k
reached_at joins a b k rising low below number = record {
  from = elim (cases_lt k (place_from joins (a * 2 ^ 32))) [
    | inl before ↦
        let fails = fails_before_first (nat_le (a * 2 ^ 32)) joins k 0 before in
        absurd (grind (arith, nat_tests))
    | inr after ↦ after
  ];
  below = elim (cases_lt k (place_from joins ((a + 1) * 2 ^ 32))) [
    | inl before ↦ before
    | inr after ↦
        let end = place_from joins ((a + 1) * 2 ^ 32) in
        let passes = passes_at_first (nat_le ((a + 1) * 2 ^ 32)) joins 0 (omega (arith, after, below)) in
        let up = rising end k after below in
        absurd (grind (arith, nat_tests))
  ];
}

-- the others of a qubit have their places one after another
pub others_ordered : (joins : List ℕ) (a : ℕ) → (others_of joins a).start ≤ (others_of joins a).end
others_ordered joins a =
    let start = place_from joins (a * 2 ^ 32) in
    let end = place_from joins ((a + 1) * 2 ^ 32) in
    elim (cases_lt end start) [
      | inl before ↦
          let fails = fails_before_first (nat_le (a * 2 ^ 32)) joins end 0 before in
          let within = prefix_len-le-length (λ n. not (nat_le (a * 2 ^ 32) n)) joins in
          let passes = passes_at_first (nat_le ((a + 1) * 2 ^ 32)) joins 0 (omega (arith, before, within)) in
          absurd (grind (arith, nat_tests))
      | inr after ↦ after
    ]

pub joined_in-findable : (parts : List Part) (named : List Bool) (joins : List ℕ)
    → IsIndexed parts named joins → (span : Span) (a b : ℕ) → a < qubits_of parts → b < qubits_of parts
    → joined_in parts a b ≡ true → CanBeJoined span (others_of joins a) (other_of joins) b
joined_in-findable parts named joins h span a b low_a low_b joined =
    let few = h.few in
    let sized = h.sized in
    let here : has_join joins a b ≡ true =
    h.joined a b (omega (arith, low_a, few, sized)) (omega (arith, low_b, few, sized)) ∙ joined in
    let found = Any-from_list_any (λ n. n == pair_number a b) joins here in
    let k = found.0 in
    let number : slice_index_or joins k 0 ≡ pair_number a b =
    get_or_default joins k 0 found.1 found.2 ∙ found.3 ∙ eqb-true found.1 (pair_number a b) found.4 in
    let rest = mod-mul-add a (2 ^ 32) b (omega (arith, low_b, few, sized)) in
    inr (
      k,
      reached_at joins a b k h.rising (omega (arith, low_b, few, sized)) found.2 number,
      ap (λ n. n % 2 ^ 32) number ∙ rest,
    )

pub listed-few : (parts : List Part) (named : List Bool) (joins : List ℕ) → IsIndexed parts named joins
    → qubits_of parts ≤ 2 ^ 20
listed-few parts named joins h = omega (arith, h.sized, h.few)
