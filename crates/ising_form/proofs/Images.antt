-- The image of a quadratic form: what it keeps, and how much greater it is.
use Rattle.ising_form.proofs.Common.{inr, inl, cases_lt, nat_tests, ◌≡◌, ℕ, suc, ◌+◌, ◌*◌, ◌≤◌, ◌^◌, ℤ, pos, ◌+ℤ◌, List, [], ◌∷◌, length, All, if◌then◌else◌, refl, sym, ap, subst, arith, sum_by, int_eq, eq-eqb, ints, sum_by-cons, sum_by-append, total_by, BitsLink, Entry, Keeps, entry_size, QuadContent, IsQuad, IsCoupler, node_entries, quad_total, quad_size, same_bits, weights-append, IsingContent, IsIsing, IsStrictlySortedBy, All-from_recursion, unsigned_abs, ising_total, ising_size, form_of, coupled, image, Fits, length-fields, spins_keeps}
use Rattle.quad_form.specs.Quads as quads
use Rattle.ising_form.proofs.FieldSums.{size-fields, size-constant}

-- ---- its total

pub total-image : (q : QuadContent) → ising_total (image q) ≤ 4 * quad_total q
total-image q = grind (arith, nat_tests, weights-append, size-fields, size-constant)

-- ---- what it keeps

pub image_is_ising : (q : QuadContent) → IsQuad q → (quad_total q + 1) * 2 ^ 2 ≤ 2 ^ 124
    → IsIsing (image q)
image_is_ising q quad low =
    let width = length-fields (coupled q.couplers) 0 q.diagonal in
    record {
      ordered = quad.ordered;
      couplings = subst (λ n. All (IsCoupler n) q.couplers) (sym width) quad.couplers;
      narrow = omega (arith, width, quad.narrow);
      small = omega (arith, total-image q, low);
    }

-- ---- its size

-- 1 for a number that is not 0
abbrev counts : ℤ → ℕ
counts z = if int_eq z (pos 0) then 0 else 1

counts_at_most_one : (z : ℤ) → counts z ≤ 1
counts_at_most_one z = grind (arith, nat_tests, ints)

none_counted : (z : ℤ) → counts z ≡ 0 → z ≡ pos 0
none_counted z h = grind (arith, nat_tests, ints)

none_of_size : (e : Entry) → entry_size e ≡ 0 → e.weight ≡ pos 0
none_of_size e h = grind (arith, nat_tests)

-- entries without a size sum to 0
none_in_sum : (es : List Entry) → sum_by entry_size es ≡ 0 → total_by (λ (e : Entry). e.weight) es ≡ pos 0
none_in_sum [] h = refl
none_in_sum (e ∷ es) h =
    let sum = sum_by-cons entry_size e es in
    grind (arith, nat_tests, none_in_sum es (omega (arith, sum)), none_of_size)

sum_of_nodes : (n : ℕ) (ws : List ℤ)
    → total_by (λ (e : Entry). e.weight) (node_entries n ws) ≡ total_by (λ (w : ℤ). w) ws
sum_of_nodes n [] = refl
sum_of_nodes n (w ∷ ws) = ap (λ z. w +ℤ z) (sum_of_nodes (suc n) ws)

size-nodes : (n : ℕ) (ws : List ℤ) → sum_by entry_size (node_entries n ws) ≤ length ws
size-nodes n [] = omega arith
size-nodes n (w ∷ ws) =
    let rest0 = size-nodes (suc n) ws in simp sum_by-cons (grind (arith, nat_tests, ints, eq-eqb))

-- the constant counts only where the form has a term
size-image_constant : (q : QuadContent) → counts (image q).constant
    ≤ counts q.constant + (sum_by entry_size (node_entries 0 q.diagonal) + sum_by entry_size q.couplers)
size-image_constant q =
    let nodes = node_entries 0 q.diagonal in
    let sum = sum_of_nodes 0 q.diagonal in
    elim (cases_lt 0 (counts q.constant + (sum_by entry_size nodes + sum_by entry_size q.couplers))) [
      | inl some ↦ omega (arith, some, counts_at_most_one (image q).constant)
      | inr none ↦
          let own = none_counted q.constant (omega (arith, none)) in
          let left = none_in_sum nodes (omega (arith, none)) in
          let right = none_in_sum q.couplers (omega (arith, none)) in
          let none : (image q).constant ≡ pos 0 = omega (arith, ints, own, left, sum, right) in
          omega (arith, ap counts none)
    ]

pub size-image : (q : QuadContent) → ising_size (image q) ≤ quad_size q * 2 ^ 1
size-image q =
    grind (arith, nat_tests, length-fields, size-image_constant, size-nodes, sum_by-append)

-- ---- of what was made

pub made_keeps : (link : BitsLink) (q : QuadContent) (f : IsingContent) → Fits link q → f ≡ image q
    → Keeps (quads.form_of q) (form_of f) (same_bits link) (pos 4) (pos 0)
made_keeps link q f fits is = rw is (spins_keeps link q fits)

-- a constant without nodes
pub empty_is_quad : (k : ℤ) (nodes : List ℤ) (couplers : List Entry) → nodes ≡ [] → couplers ≡ []
    → unsigned_abs k ≤ 2 ^ 124
    → IsQuad (record { constant = k; diagonal = nodes; couplers = couplers })
unfolding IsStrictlySortedBy
empty_is_quad k [] [] none free small = record {
  ordered = tt;
  couplers = All-from_recursion (IsCoupler 0) [] tt;
  narrow = omega arith;
  small = omega (arith, small);
}
empty_is_quad k (w ∷ ws) couplers none free small = absurd cc
empty_is_quad k [] (e ∷ es) none free small = absurd cc
