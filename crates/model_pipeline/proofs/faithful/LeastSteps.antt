-- Least states through a step that keeps them alone, and through a division by a unit.
--
-- What reaches a least state is a least state, since the least energies of both forms stand for
-- each other. So each least assignment is still decoded from a least state, and each least state
-- still decodes to one.
use Rattle.model_pipeline.proofs.faithful.Common.{nat_tests, ◌≡◌, ℤ, pos, ◌+ℤ◌, ◌*ℤ◌, ◌<ℤ◌, Bool, List, sym, ap, ◌∙◌, arith, subst, ints, by_lt_z, times-le, times-lt, scaled_twice, Figures, Form, energy, figures_after, figures_moved, Decoding, Reaches, Reduces, decoding_after, IsFeasible, IsLeast, IsLeastAt, IsLeastState, KeepsLeast, StandsAtLeast}
use Rattle.model_pipeline.proofs.faithful.LeastStates.{least_state}

-- ---- a step that keeps least states alone

module _ {g h : Form} {e : Decoding} {a b : ℤ} (k : KeepsLeast g h e a b) where
  -- what reaches a least state is a least state
  reaching_is_least : (y z : List Bool) → IsLeastState g y
      → Reaches h e y (a *ℤ energy g y +ℤ b) z → IsLeastState h z
  reaching_is_least y z l r =
      let s = least_state h in
      grind (arith, nat_tests, ints)

module _ {f g h : Form} {d e : Decoding} {n : Figures} {a b : ℤ}
    (p : StandsAtLeast f g d (pos 1) n) (k : KeepsLeast g h e a b) where
  kept_energy : (x : List Bool) (v : ℤ) (z : List Bool) → IsLeastAt f x v → IsLeastState h z
      → pos 1 *ℤ energy h z ≡ (n.scale *ℤ a) *ℤ v +ℤ (a *ℤ n.offset +ℤ b)
  kept_energy x v z least l =
      let y = e.decoded z in
      let ly = k.decodes z l in
      let one = p.least_energy x v y least ly in
      let first : energy g y ≡ n.scale *ℤ v +ℤ n.offset = omega (arith, ints, one) in
      let second = k.least y z ly l in
      let both = second ∙ ap (λ t. a *ℤ t +ℤ b) first ∙ scaled_twice a n.scale v n.offset b in
      omega (arith, ints, both)

  kept_above : ¬ (IsFeasible f) → (z : List Bool) × IsLeastState h z
      × ((a *ℤ n.threshold +ℤ b) <ℤ (pos 1 *ℤ energy h z))
  kept_above never =
      let y = p.infeasible.0 never in
      let z = k.reached y.0 y.1.width in
      let lt : n.threshold <ℤ energy g y.0 = let l = y.2 in omega (arith, ints, l) in (
        z.0,
        reaching_is_least k y.0 z.0 y.1 z.1,
        omega (arith, ints, times-lt a n.threshold (energy g y.0) k.positive lt, z.1.energy),
      )

  kept_below : ((z : List Bool) × IsLeastState h z
      × ((a *ℤ n.threshold +ℤ b) <ℤ (pos 1 *ℤ energy h z))) → ¬ (IsFeasible f)
  kept_below (z, l, lt) =
      let y = e.decoded z in
      let ly = k.decodes z l in
      let same = k.least y z ly l in
      p.infeasible.1 (
        y,
        ly,
        by_lt_z n.threshold (energy g y) (λ less. omega (arith, ints, less)) (λ no.
            let positive = k.positive in
            let scaled = times-le a (energy g y) n.threshold (omega (arith, ints, positive)) no in
            absurd (omega (arith, ints, scaled, same, lt))),
      )

  pub kept_stands : StandsAtLeast f h (decoding_after d e) (pos 1) (figures_after n a b)
  kept_stands = record {
    exact = λ feasible x. (
      λ least.
          let y = (p.exact feasible x).0 least in
          let z = k.reached y.0 y.1.width in
          (z.0, reaching_is_least k y.0 z.0 y.1 z.1, ap d.decoded z.1.decodes ∙ y.2),
      λ s. subst (IsLeast f) s.2 (p.decodes feasible (e.decoded s.0) (k.decodes s.0 s.1)),
    );
    decodes = λ feasible z l. p.decodes feasible (e.decoded z) (k.decodes z l);
    least_energy = kept_energy;
    infeasible = (kept_above, kept_below);
  }

-- ---- division by a unit

module _ {g h : Form} {u b : ℤ} (q : Reduces g h u b) where
  least_divided : (y : List Bool) → IsLeastState g y → IsLeastState h y
  least_divided y l = record {
    width = l.width ∙ sym q.width;
    least = λ z w. by_lt_z (energy h z) (energy h y) (λ lt.
        let scaled = times-lt u (energy h z) (energy h y) q.positive lt in
        let this = q.energy y l.width in
        let that = q.energy z (w ∙ q.width) in
        let no_less = l.least z (w ∙ q.width) in
        absurd (omega (arith, ints, scaled, this, that, no_less))) (λ le. le);
  }

  least_multiplied : (y : List Bool) → IsLeastState h y → IsLeastState g y
  least_multiplied y l = record {
    width = l.width ∙ q.width;
    least = λ z w.
        let positive = q.positive in
        let no_less = l.least z (w ∙ sym q.width) in
        let scaled = times-le u (energy h y) (energy h z) (omega (arith, ints, positive)) no_less in
        let this = q.energy y (l.width ∙ q.width) in
        let that = q.energy z w in
        omega (arith, ints, scaled, this, that);
  }

pub reduced_stands : (f g h : Form) (d : Decoding) (n : Figures) (u b : ℤ)
    → StandsAtLeast f g d (pos 1) n → Reduces g h u b → StandsAtLeast f h d u (figures_moved n b)
reduced_stands f g h d n u b p q = record {
  exact = λ feasible x. (
    λ least.
        let y = (p.exact feasible x).0 least in
        (y.0, least_divided q y.0 y.1, y.2),
    λ s. (p.exact feasible x).1 (s.0, least_multiplied q s.0 s.1, s.2),
  );
  decodes = λ feasible y l. p.decodes feasible y (least_multiplied q y l);
  least_energy = λ x v y least l.
      let first = p.least_energy x v y least (least_multiplied q y l) in
      let this = q.energy y (l.width ∙ q.width) in
      omega (arith, ints, first, this);
  infeasible = (
    λ never.
        let y = p.infeasible.0 never in
        let over = y.2 in
        let this = q.energy y.0 y.1.width in
        (y.0, least_divided q y.0 y.1, omega (arith, ints, over, this)),
    λ s.
        let over = s.2 in
        let this = q.energy s.0 (s.1.width ∙ q.width) in
        p.infeasible.1 (s.0, least_multiplied q s.0 s.1, omega (arith, ints, over, this)),
  );
}
