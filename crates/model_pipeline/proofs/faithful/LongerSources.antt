-- Least assignments of a source that is rewritten with more variables.
use Rattle.model_pipeline.proofs.faithful.Common.{nat_tests, ◌≡◌, ℤ, Bool, List, take, ap, ◌∙◌, arith, subst, ints, Figures, Form, Decoding, Rewrites, first_decoded, first_is_of, IsFeasible, IsLeast, IsLeastAt, StandsAtLeast}

module _ {f f' : Form} (r : Rewrites f f') where
  -- a least assignment is the front of a least one
  least_longer : (x : List Bool) (v : ℤ) → IsLeastAt f x v
      → (x' : List Bool) × IsLeastAt f' x' v × (take f.bits x' ≡ x)
  least_longer x v l =
      let s = r.reached x l.has.width v l.has.whole in (
        s.0,
        record {
          has = record { width = s.1; whole = s.3 };
          least = λ z c has.
              let t = r.bound z has.width c has.whole in
              let no_less = l.least (take f.bits z) t.0
              (record { width = first_is_of r z has.width; whole = t.1 }) in
              let less = t.2 in
              omega (arith, ints, no_less, less);
        },
        s.2,
      )

  -- the front of a least one is a least assignment
  least_front : (x : List Bool) → IsLeast f' x → IsLeast f (take f.bits x)
  least_front x (c, l) =
      let t = r.bound x l.has.width c l.has.whole in (
        t.0,
        record {
          has = record { width = first_is_of r x l.has.width; whole = t.1 };
          least = λ z k has.
              let s = r.reached z has.width k has.whole in
              let no_less = l.least s.0 k (record { width = s.1; whole = s.3 }) in
              let less = t.2 in
              omega (arith, ints, no_less, less);
        },
      )

  feasible_longer : IsFeasible f → IsFeasible f'
  feasible_longer (x, v, h) = grind (arith, nat_tests)

  feasible_front : IsFeasible f' → IsFeasible f
  feasible_front (x, v, h) = grind (arith, nat_tests, first_is_of r x h.width)

pub rewritten_stands : (f f' g : Form) (d : Decoding) (u : ℤ) (n : Figures) → Rewrites f f'
    → StandsAtLeast f' g d u n → StandsAtLeast f g (first_decoded f.bits d) u n
rewritten_stands f f' g d u n r p = record {
  exact = λ feasible x. (
    λ least.
        let l = least_longer r x least.0 least.1 in
        let y = (p.exact (feasible_longer r feasible) l.0).0 (least.0, l.1) in
        (y.0, y.1, ap (take f.bits) y.2 ∙ l.2),
    λ s. subst (IsLeast f) s.2
        (least_front r (d.decoded s.0) (p.decodes (feasible_longer r feasible) s.0 s.1)),
  );
  decodes = λ feasible y l.
      least_front r (d.decoded y) (p.decodes (feasible_longer r feasible) y l);
  least_energy = λ x v y least l.
      let longer = least_longer r x v least in
      p.least_energy longer.0 v y longer.1 l;
  infeasible = (
    λ never. p.infeasible.0 (λ feasible. never (feasible_front r feasible)),
    λ s feasible. p.infeasible.1 s (feasible_longer r feasible),
  );
}
