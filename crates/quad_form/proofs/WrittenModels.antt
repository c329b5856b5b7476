-- The model of a quadratic form: it is well formed, and has the form's energies but for the
-- constant.
use Rattle.quad_form.proofs.Common.{nat_tests, ◌≡◌, ℕ, ◌≤◌, ◌⊎◌, ℤ, pos, neg_ℤ, ◌+ℤ◌, ◌*ℤ◌, ◌≤ℤ◌, ◌<ℤ◌, Bool, List, length, take, refl, sym, ap, ◌∙◌, arith, ints, recursion_from_All, total_by, Figures, Form, figures_moved, Decoding, Relaxes, RelaxesAtLeast, RelaxesBy, StandsAt, StaysAbove, PenaltyScope, Global, Local, stands_moved, subst, decoding_of, StaysAsWritten, IsWellFormed, bits_energy, QuadContent, IsQuad, form_of, written_of, entries_of, RelaxesAsWritten, Whole}
use Rattle.quad_form.proofs.NodeEntries.{nodes_ordered, couplers_up, all_placed, has_each_node, all_nonzero}

pub written_is_well_formed : (q : QuadContent) (variables : ℕ) (figures : Figures) (unit : ℤ)
    → IsQuad q → variables ≤ length q.diagonal → pos 1 ≤ℤ figures.scale → pos 1 ≤ℤ unit
    → IsWellFormed (written_of q variables figures unit)
written_is_well_formed q variables figures unit quad enough scale one = record {
  unit = one;
  scale = scale;
  ordered = nodes_ordered 0 q.diagonal q.couplers
      (couplers_up (length q.diagonal) q.couplers (recursion_from_All _ q.couplers quad.couplers))
      quad.ordered;
  placed = all_placed q.diagonal q.couplers quad.couplers;
  kind = record {
    listed = λ i h. has_each_node 0 q.diagonal q.couplers i (omega arith) (omega arith);
    nonzero = all_nonzero q.diagonal q.couplers quad.couplers;
    unchained = refl;
    enough = enough;
  };
}

-- in a unit that is 1, or without a constant, the constant is counted once
counted_once : (u c e : ℤ) → (u ≡ pos 1) ⊎ (c ≡ pos 0) → u *ℤ (c +ℤ e) ≡ c +ℤ u *ℤ e
counted_once u c e is = grind (arith, nat_tests, ints)

-- the constant c is moved from the energies, which count u each, to the figures
moved_bound : (s v b c u e : ℤ) → u *ℤ (c +ℤ e) ≡ c +ℤ u *ℤ e
    → (s *ℤ v +ℤ b) ≤ℤ (u *ℤ (c +ℤ e)) → (s *ℤ v +ℤ (b +ℤ neg_ℤ c)) ≤ℤ (u *ℤ e)
moved_bound s v b c u e once h = omega (arith, ints)

moved_above : (t c u e : ℤ) → u *ℤ (c +ℤ e) ≡ c +ℤ u *ℤ e
    → t <ℤ (u *ℤ (c +ℤ e)) → (t +ℤ neg_ℤ c) <ℤ (u *ℤ e)
moved_above t c u e once h = omega (arith, ints)

-- what is taken off the figures is what the energy is less by
moved_energy : (u c e : ℤ) → u *ℤ (c +ℤ e) ≡ c +ℤ u *ℤ e → u *ℤ e ≡ u *ℤ (c +ℤ e) +ℤ neg_ℤ c
moved_energy u c e once = omega (arith, ints)

moved_reach : (s v b c u e : ℤ) → u *ℤ (c +ℤ e) ≡ c +ℤ u *ℤ e
    → u *ℤ (c +ℤ e) ≡ s *ℤ v +ℤ b → u *ℤ e ≡ s *ℤ v +ℤ (b +ℤ neg_ℤ c)
moved_reach s v b c u e once h = omega (arith, ints)

moved_below : (s v b c t : ℤ) → (s *ℤ v +ℤ b) ≤ℤ t → (s *ℤ v +ℤ (b +ℤ neg_ℤ c)) ≤ℤ (t +ℤ neg_ℤ c)
moved_below s v b c t h = omega (arith, ints)

-- where a form relaxes a source, the energies without its constant do, which is taken off the
-- figures
pub moved_relaxes : (source : Form) (bits : ℕ) (sum energy : List Bool → ℤ) (c : ℤ)
    (d e : Decoding) (n : Figures) (unit : ℤ) → (unit ≡ pos 1) ⊎ (c ≡ pos 0)
    → ((y : List Bool) → d.decoded y ≡ e.decoded y) → ((y : List Bool) → energy y ≡ sum y)
    → Relaxes source (record { bits = bits; cost = λ y. Whole (c +ℤ sum y) }) d unit n
    → Relaxes source (record { bits = bits; cost = λ y. Whole (energy y) }) e unit
    (figures_moved n (neg_ℤ c))
moved_relaxes source bits sum energy c d e n unit counted same is p = record {
  unit = p.unit;
  positive = p.positive;
  width = λ y w. rw (← same y) (p.width y w);
  bound = λ y w v whole.
      let cost = ap source.cost (same y) ∙ whole in
      rw (is y) (moved_bound n.scale v n.offset c unit (sum y) (once y) (p.bound y w v cost));
  above = λ y w infinite.
      let cost = ap source.cost (same y) ∙ infinite in
      rw (is y) (moved_above n.threshold c unit (sum y) (once y) (p.above y w cost));
  reached = λ x w v whole.
      let y = p.reached x w v whole in
      let reach = moved_reach n.scale v n.offset c unit (sum y.0) (once y.0) y.1.energy in (
        y.0,
        record {
          width = y.1.width;
          decodes = sym (same y.0) ∙ y.1.decodes;
          energy = ap (λ z. unit *ℤ z) (is y.0) ∙ reach;
        },
      );
  below = λ x w v whole. moved_below n.scale v n.offset c n.threshold (p.below x w v whole);
  onto = λ x w. let y = p.onto x w in (y.0, y.1, sym (same y.0) ∙ y.2);
}
  where
    once : (y : List Bool) → unit *ℤ (c +ℤ sum y) ≡ c +ℤ unit *ℤ sum y
    once y = counted_once unit c (sum y) counted

-- where it does so at least, they do
moved_at_least : (source : Form) (bits : ℕ) (sum energy : List Bool → ℤ) (c : ℤ)
    (d e : Decoding) (n : Figures) (unit : ℤ) → (unit ≡ pos 1) ⊎ (c ≡ pos 0)
    → ((y : List Bool) → d.decoded y ≡ e.decoded y) → ((y : List Bool) → energy y ≡ sum y)
    → RelaxesAtLeast source (record { bits = bits; cost = λ y. Whole (c +ℤ sum y) }) d unit n
    → RelaxesAtLeast source (record { bits = bits; cost = λ y. Whole (energy y) }) e unit
    (figures_moved n (neg_ℤ c))
moved_at_least source bits sum energy c d e n unit counted same is p = record {
  unit = p.unit;
  positive = p.positive;
  width = λ y w. rw (← same y) (p.width y w);
  stands = λ y w.
      let taken : unit *ℤ energy y ≡ unit *ℤ (c +ℤ sum y) +ℤ neg_ℤ c =
      ap (λ z. unit *ℤ z) (is y) ∙ moved_energy unit c (sum y) (once y) in
      subst (λ x. StandsAt source (figures_moved n (neg_ℤ c)) x (unit *ℤ energy y)) (same y)
      (stands_moved source n (neg_ℤ c) (d.decoded y) (unit *ℤ (c +ℤ sum y)) (unit *ℤ energy y) taken (p.stands y w));
  reached = λ x w v whole.
      let y = p.reached x w v whole in
      let reach = moved_reach n.scale v n.offset c unit (sum y.0) (once y.0) y.1.energy in (
        y.0,
        record {
          width = y.1.width;
          decodes = sym (same y.0) ∙ y.1.decodes;
          energy = ap (λ z. unit *ℤ z) (is y.0) ∙ reach;
        },
      );
  below = λ x w v whole. moved_below n.scale v n.offset c n.threshold (p.below x w v whole);
  onto = λ x w. let y = p.onto x w in (y.0, y.1, sym (same y.0) ∙ y.2);
}
  where
    once : (y : List Bool) → unit *ℤ (c +ℤ sum y) ≡ c +ℤ unit *ℤ sum y
    once y = counted_once unit c (sum y) counted

-- so in each scope
pub moved_by : (scope : PenaltyScope) (source : Form) (bits : ℕ) (sum energy : List Bool → ℤ) (c : ℤ)
    (d e : Decoding) (n : Figures) (unit : ℤ) → (unit ≡ pos 1) ⊎ (c ≡ pos 0)
    → ((y : List Bool) → d.decoded y ≡ e.decoded y) → ((y : List Bool) → energy y ≡ sum y)
    → RelaxesBy scope source (record { bits = bits; cost = λ y. Whole (c +ℤ sum y) }) d unit n
    → RelaxesBy scope source (record { bits = bits; cost = λ y. Whole (energy y) }) e unit
    (figures_moved n (neg_ℤ c))
moved_by Global source bits sum energy c d e n unit counted same is p =
    moved_relaxes source bits sum energy c d e n unit counted same is p
moved_by Local source bits sum energy c d e n unit counted same is p =
    moved_at_least source bits sum energy c d e n unit counted same is p

-- and what no state lies below stays there
pub moved_stays : (source : Form) (bits : ℕ) (sum energy : List Bool → ℤ) (c : ℤ)
    (d e : Decoding) (n : Figures) (unit : ℤ) → (unit ≡ pos 1) ⊎ (c ≡ pos 0)
    → ((y : List Bool) → d.decoded y ≡ e.decoded y) → ((y : List Bool) → energy y ≡ sum y)
    → StaysAbove source (record { bits = bits; cost = λ y. Whole (c +ℤ sum y) }) d unit n
    → StaysAbove source (record { bits = bits; cost = λ y. Whole (energy y) }) e unit
    (figures_moved n (neg_ℤ c))
moved_stays source bits sum energy c d e n unit counted same is p = record {
  bound = λ y w v whole.
      let cost = ap source.cost (same y) ∙ whole in
      rw (is y) (moved_bound n.scale v n.offset c unit (sum y) (counted_once unit c (sum y) counted) (p.bound y w v cost));
}

pub written_relaxes : (scope : PenaltyScope) (source : Form) (q : QuadContent) (d : Decoding)
    (variables : ℕ) (figures : Figures) (unit : ℤ) → (unit ≡ pos 1) ⊎ (q.constant ≡ pos 0)
    → ((y : List Bool) → d.decoded y ≡ take variables y)
    → RelaxesBy scope source (form_of q) d unit figures
    → RelaxesAsWritten scope source (written_of q variables figures unit)
written_relaxes scope source q d variables n unit counted same p =
    let sum : List Bool → ℤ = λ y. total_by (bits_energy y) (entries_of q) in
    moved_by scope source (length q.diagonal) sum sum q.constant d (decoding_of (written_of q variables n unit)) n unit counted same (λ y. refl) p

pub written_stays : (source : Form) (q : QuadContent) (d : Decoding) (variables : ℕ)
    (figures : Figures) (unit : ℤ) → (unit ≡ pos 1) ⊎ (q.constant ≡ pos 0)
    → ((y : List Bool) → d.decoded y ≡ take variables y)
    → StaysAbove source (form_of q) d unit figures
    → StaysAsWritten source (written_of q variables figures unit)
written_stays source q d variables n unit counted same p =
    let sum : List Bool → ℤ = λ y. total_by (bits_energy y) (entries_of q) in
    moved_stays source (length q.diagonal) sum sum q.constant d (decoding_of (written_of q variables n unit)) n unit counted same (λ y. refl) p
