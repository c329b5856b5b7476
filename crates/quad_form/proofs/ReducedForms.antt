-- Forms whose weights are counted in their greatest unit.
--
-- What the weights keep is the same for bits and for spins, whose energies are both linear in the
-- weights.
use Rattle.quad_form.proofs.Common.{nat_tests, ◌≡◌, ℕ, ◌+◌, ◌*◌, ◌<◌, ◌≤◌, Bool, ℤ, pos, neg_ℤ, ◌+ℤ◌, ◌*ℤ◌, ◌≤ℤ◌, unsigned_abs, List, length, map, All, ap, ◌∙◌, subst, arith, ◌∣◌, mul-le-mul_right, ints, length-map, Form, total_by, Entry, Reduces, IsMultiple, bits_energy, weight_total, QuadContent, IsQuad, entries_of, node_entries, quad_total, form_of, unit_of, weights_of, counted_in, entry_in, quad_unit, reduced, IsReducedAsWritten, Whole}
use Rattle.quad_form.proofs.Divisors.{exact}
use Rattle.quad_form.proofs.UnitEntries.{DividesEach, unit_in, unit_divides, one_le_unit, weights-entries, entries-in, total-in, energy-in, ordered-in, couplers-in, quotients_coprime, unit_of_zeros, each_of_rest}

-- the form whose weights are counted in a unit
abbrev counted_form : ℤ → QuadContent → QuadContent
counted_form unit q = record {
  constant = pos 0;
  diagonal = map (counted_in unit) q.diagonal;
  couplers = map (entry_in unit) q.couplers;
}

-- the unit, as a natural number
abbrev unit_number : QuadContent → ℕ
unit_number q = unit_in (entries_of q)

unit_is : (q : QuadContent) → pos (unit_number q) ≡ quad_unit q
unit_is q = ap unit_of (weights-entries q.diagonal q.couplers)

form_is : (q : QuadContent) → counted_form (pos (unit_number q)) q ≡ reduced q
form_is q = ap (λ u. counted_form u q) (unit_is q)

entries_counted : (unit : ℤ) (q : QuadContent)
    → entries_of (counted_form unit q) ≡ map (entry_in unit) (entries_of q)
entries_counted unit q = entries-in unit q.diagonal q.couplers

pub one_le_quad_unit : (q : QuadContent) → pos 1 ≤ℤ quad_unit q
one_le_quad_unit q = grind (arith, nat_tests, ints, one_le_unit (entries_of q), unit_is q)

-- ---- its total

total_counted : (q : QuadContent)
    → unit_number q * quad_total (counted_form (pos (unit_number q)) q) ≤ quad_total q
total_counted q =
    let u = unit_number q in
    let es = entries_of q in
    let none : 0 + weight_total (entries_of (counted_form (pos u) q)) ≡ weight_total (entries_of (counted_form (pos u) q)) = omega arith in
    let same = none ∙ ap weight_total (entries_counted (pos u) q) in
    let total : u * quad_total (counted_form (pos u) q) ≡ weight_total es =
    ap (λ n. u * n) same ∙ total-in u es (unit_divides es) in
    omega (arith, total)

pub total_reduced : (q : QuadContent)
    → unsigned_abs (quad_unit q) * quad_total (reduced q) ≤ quad_total q
total_reduced q = grind (arith, nat_tests, unit_is q, total_counted q)

-- ---- what it keeps

pub reduced_is_quad : (q : QuadContent) → IsQuad q → IsQuad (reduced q)
reduced_is_quad q quad =
    let u = unit_number q in
    let width = length-map q.diagonal (counted_in (pos u)) in
    let each : DividesEach u q.couplers = each_of_rest u (node_entries 0 q.diagonal) q.couplers (unit_divides (entries_of q)) in
    let less = mul-le-mul_right (quad_total (counted_form (pos u) q)) (one_le_unit (entries_of q)) in
    let kept : IsQuad (counted_form (pos u) q) = record {
      ordered = ordered-in (pos u) q.couplers quad.ordered;
      couplers = rw width (couplers-in u (length q.diagonal) q.couplers each quad.couplers);
      narrow = omega (arith, width, quad.narrow);
      small = omega (arith, less, total_counted q, quad.small);
    } in
    subst IsQuad (form_is q) kept

-- ---- its energies

-- an energy of entries is a multiple of the weight
abbrev pub IsLinear : (Entry → ℤ) → Type 0
IsLinear f = (u : ℤ) (e : Entry) → u *ℤ f e ≡ f (record e { weight = u *ℤ e.weight })

-- the form of these weights, under an energy of entries for each state
abbrev pub form_by : (List Bool → Entry → ℤ) → QuadContent → Form
form_by f q = record {
  bits = length q.diagonal;
  cost = λ y. Whole (q.constant +ℤ total_by (f y) (entries_of q));
}

pub bits_linear : (y : List Bool) → IsLinear (bits_energy y)
bits_linear y u e = grind (arith, nat_tests)

energy_each : (f : Entry → ℤ) → IsLinear f → (u : ℕ) (e : Entry) → u ∣ unsigned_abs e.weight
    → pos u *ℤ f (entry_in (pos u) e) ≡ f e
energy_each f linear u e h =
    linear (pos u) (entry_in (pos u) e) ∙ ap (λ w. f (record e { weight = w })) (exact u e.weight h)

forms_reduce : (f : List Bool → Entry → ℤ) → ((y : List Bool) → IsLinear (f y)) → (q : QuadContent)
    → Reduces (form_by f q) (form_by f (reduced q)) (quad_unit q) (neg_ℤ q.constant)
forms_reduce f linear q =
    rw (← unit_is q) counted
  where
    u : ℕ
    u = unit_number q

    counted : Reduces (form_by f q) (form_by f (counted_form (pos u) q)) (pos u) (neg_ℤ q.constant)
    counted = record {
      positive = omega (arith, ints, one_le_unit (entries_of q));
      width = length-map q.diagonal (counted_in (pos u));
      energy = λ y w.
          let sum = total_by (f y) (entries_of q) in
          let none : (z : ℤ) → pos 0 +ℤ z ≡ z = λ z. omega (arith, ints) in
          let taken : sum ≡ (q.constant +ℤ sum) +ℤ neg_ℤ q.constant = omega (arith, ints) in
          ap (λ z. pos u *ℤ z) (none (total_by (f y) (entries_of (counted_form (pos u) q)))
          ∙ ap (total_by (f y)) (entries_counted (pos u) q))
          ∙ energy-in _ _ _ (unit_divides (entries_of q)) (energy_each (f y) (linear y) u) ∙ taken;
    }

pub reduced_reduces : (q : QuadContent)
    → Reduces (form_of q) (form_of (reduced q)) (quad_unit q) (neg_ℤ q.constant)
reduced_reduces q = forms_reduce bits_energy bits_linear q

-- ---- its unit is the greatest

-- no whole number above 1 divides all entries unless all are 0, and then the unit is 1
pub record IsCoprime (es : List Entry) (unit : ℤ) : Type 0 where
  pub coprime : (d : ℕ) → 1 < d → All (λ e. IsMultiple d e.weight) es
      → All (λ e. e.weight ≡ pos 0) es
  pub zero : All (λ e. e.weight ≡ pos 0) es → unit ≡ pos 1

pub counted_coprime : (q : QuadContent) → IsCoprime (entries_of (reduced q)) (quad_unit q)
counted_coprime q =
    let u = unit_number q in
    let counted : IsCoprime (map (entry_in (pos u)) (entries_of q)) (pos u) = record {
      coprime = λ d more all. quotients_coprime (entries_of q) d more all;
      zero = λ all. unit_of_zeros (entries_of q) all;
    } in
    subst (λ u. IsCoprime (entries_of (counted_form u q)) u) (unit_is q) (rw (entries_counted (pos u) q) counted)

pub reduced_is_reduced : (q : QuadContent) → IsReducedAsWritten (reduced q) (quad_unit q)
reduced_is_reduced q variables figures = record {
  coprime = (counted_coprime q).coprime;
  zero = (counted_coprime q).zero;
}

-- ---- of what was made

-- what is made of weights that are counted in their greatest unit
pub made_of_weights : (constant : ℤ) (ws : List ℤ) (cs : List Entry) (nodes : List ℤ)
    (couplers : List Entry) → nodes ≡ map (counted_in (unit_of (weights_of ws cs))) ws
    → couplers ≡ map (entry_in (unit_of (weights_of ws cs))) cs
    → record { constant = pos 0; diagonal = nodes; couplers = couplers }
    ≡ reduced (record { constant = constant; diagonal = ws; couplers = cs })
made_of_weights constant ws cs nodes couplers of_nodes of_couplers = λ i. record {
  constant = pos 0;
  diagonal = of_nodes i;
  couplers = of_couplers i;
}

pub made_reduces : (f : List Bool → Entry → ℤ) → ((y : List Bool) → IsLinear (f y))
    → (q r : QuadContent) (unit offset : ℤ) → r ≡ reduced q → unit ≡ quad_unit q
    → offset ≡ neg_ℤ q.constant → Reduces (form_by f q) (form_by f r) unit offset
made_reduces f linear q r unit offset is same moved = rw (is, same, moved) (forms_reduce f linear q)

pub made_total : (q r : QuadContent) (unit : ℤ) → r ≡ reduced q → unit ≡ quad_unit q
    → unsigned_abs unit * quad_total r ≤ quad_total q
made_total q r unit is same = rw (is, same) (total_reduced q)

pub made_is_reduced : (q r : QuadContent) (unit : ℤ) → r ≡ reduced q → unit ≡ quad_unit q
    → IsReducedAsWritten r unit
made_is_reduced q r unit is same = rw (is, same) (reduced_is_reduced q)
