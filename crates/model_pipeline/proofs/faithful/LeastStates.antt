-- What relaxes a source has least states that stand for its least assignments.
--
-- A state reaches each assignment of whole cost, at the bound that no state with a cost lies below,
-- and a state without one lies above all of these, or above some of them. So least assignments are reached by least
-- states, and only by these. That there is a least state at all is a recursion on the width.
use Rattle.model_pipeline.proofs.faithful.Common.{nat_tests, ◌≡◌, ℕ, zero, suc, ℤ, pos, ◌+ℤ◌, ◌*ℤ◌, ◌≤ℤ◌, ◌<ℤ◌, Bool, true, false, List, [], ◌∷◌, length, refl, arith, ap, subst, ints, by_lt_z, times-le, times-lt, Figures, Form, Source, energy, IsOf, Decoding, PenaltyScope, RelaxesAtLeast, RelaxesBy, by_at_least, ReachesIn, inl, inr, HasCost, IsFeasible, IsLeast, IsLeastAt, IsLeastState, Written, IsWellFormed, form_of, decoding_of, StandsAtLeast, Demand, Faithful, IsStated}

-- ---- there is a least state

-- y is a list of n bits with the least value of g
record IsLeastOf (n : ℕ) (g : List Bool → ℤ) (y : List Bool) : Type 0 where
  width : length y ≡ n
  least : (y' : List Bool) → length y' ≡ n → g y ≤ℤ g y'

-- what holds of both continuations holds of each list that is longer by one
each_longer : (n : ℕ) (g : List Bool → ℤ) (e : ℤ)
    → ((y : List Bool) → length y ≡ n → e ≤ℤ g (true ∷ y))
    → ((y : List Bool) → length y ≡ n → e ≤ℤ g (false ∷ y))
    → (y : List Bool) → length y ≡ suc n → e ≤ℤ g y
each_longer n g e t f [] w = absurd (omega arith)
each_longer n g e t f (true ∷ y) w = t y (omega arith)
each_longer n g e t f (false ∷ y) w = f y (omega arith)

le-trans : (a b c : ℤ) → a ≤ℤ b → b ≤ℤ c → a ≤ℤ c
le-trans a b c p q = omega (arith, ints)

only_empty : (g : List Bool → ℤ) (y : List Bool) → length y ≡ 0 → g [] ≤ℤ g y
only_empty g [] w = omega (arith, ints)
only_empty g (x ∷ y) w = absurd (omega arith)

-- the lesser of the least lists that begin with either bit
least_of : (n : ℕ) (g : List Bool → ℤ) → (y : List Bool) × IsLeastOf n g y
least_of zero g = ([], record { width = refl; least = only_empty g })
least_of (suc n) g =
    let s = least_of n (λ y. g (true ∷ y)) in
    let r = least_of n (λ y. g (false ∷ y)) in
    by_lt_z (g (true ∷ s.0)) (g (false ∷ r.0)) (λ lt. (
      true ∷ s.0,
      record {
        width = ap suc s.1.width;
        least = each_longer n g (g (true ∷ s.0)) s.1.least
            (λ y w. le-trans _ (g (false ∷ r.0)) _ (omega (arith, ints)) (r.1.least y w));
      },
    )) (λ le. (
      false ∷ r.0,
      record {
        width = ap suc r.1.width;
        least = each_longer n g (g (false ∷ r.0))
            (λ y w. le-trans _ (g (true ∷ s.0)) _ le (s.1.least y w)) r.1.least;
      },
    ))

pub least_state : (g : Form) → (y : List Bool) × IsLeastState g y
least_state g = grind (arith, nat_tests, least_of g.bits (energy g))

-- ---- what least states say

scaled-le : (a v w : ℤ) → pos 1 ≤ℤ a → v ≤ℤ w → (a *ℤ v) ≤ℤ (a *ℤ w)
scaled-le a v w p h = times-le a v w (omega (arith, ints)) h

unscaled-le : (a v w : ℤ) → pos 1 ≤ℤ a → (a *ℤ v) ≤ℤ (a *ℤ w) → v ≤ℤ w
unscaled-le a v w p h =
    by_lt_z w v (λ lt. absurd (omega (arith, ints, times-lt a w v p lt, h))) (λ le. le)

module _ {f g : Form} {d : Decoding} {u : ℤ} {n : Figures} where
  -- a state that reaches a least assignment is a least state
  reaching_is_least : RelaxesAtLeast f g d u n → (x y : List Bool) (v : ℤ) → IsLeastAt f x v
      → ReachesIn u g d x (n.scale *ℤ v +ℤ n.offset) y → IsLeastState g y
  reaching_is_least p x y v l s = record {
    width = s.width;
    least = λ z w. unscaled-le u (energy g y) (energy g z) p.unit (no_lower z w);
  }
    where
      no_lower : (z : List Bool) → IsOf g z → (u *ℤ energy g y) ≤ℤ (u *ℤ energy g z)
      no_lower z w = elim (p.stands z w) [
        | inl at ↦
            let cost : HasCost f (d.decoded z) at.0 = record { width = p.width z w; whole = at.1 } in
            let no_less = l.least (d.decoded z) at.0 cost in
            let bound = at.2 in
            omega (arith, ints, s.energy, bound, scaled-le n.scale v at.0 p.positive no_less)
        | inr more ↦ elim more [
          | inl above ↦ omega (arith, ints, s.energy, above, p.below x l.has.width v l.has.whole)
          | inr other ↦
              let cost : HasCost f other.0 other.1 = record { width = other.2; whole = other.3 } in
              let no_less = l.least other.0 other.1 cost in
              let lower = other.4 in
              omega (arith, ints, s.energy, lower, scaled-le n.scale v other.1 p.positive no_less)
        ]
      ]

  -- where some assignment has a whole cost, a least state decodes to one that has, and does not lie
  -- below it
  least_has_cost : RelaxesAtLeast f g d u n → (x : List Bool) (v : ℤ) → HasCost f x v
      → (y : List Bool) → IsLeastState g y
      → (c : ℤ) × HasCost f (d.decoded y) c × ((n.scale *ℤ c +ℤ n.offset) ≤ℤ (u *ℤ energy g y))
  least_has_cost p x v h y l = elim (p.stands y l.width) [
    | inl at ↦ (at.0, record { width = p.width y l.width; whole = at.1 }, at.2)
    | inr more ↦ elim more [
      | inl above ↦
          let s = p.reached x h.width v h.whole in
          let no_less = scaled-le u (energy g y) (energy g s.0) p.unit (l.least s.0 s.1.width) in
          absurd (omega (arith, ints, above, no_less, s.1.energy, p.below x h.width v h.whole))
      | inr other ↦
          let s = p.reached other.0 other.2 other.1 other.3 in
          let no_less = scaled-le u (energy g y) (energy g s.0) p.unit (l.least s.0 s.1.width) in
          let lower = other.4 in
          absurd (omega (arith, ints, lower, no_less, s.1.energy))
    ]
  ]

  least_decodes : RelaxesAtLeast f g d u n → (x : List Bool) (v : ℤ) → HasCost f x v
      → (y : List Bool) → IsLeastState g y → IsLeast f (d.decoded y)
  least_decodes p x v h y l =
      let c = least_has_cost p x v h y l in (
        c.0,
        record {
          has = c.1;
          least = λ z w k.
              let s = p.reached z k.width w k.whole in
              by_lt_z w c.0 (λ lt.
              let less = times-lt n.scale w c.0 p.positive lt in
              let bound = c.2 in
              let no_less = scaled-le u (energy g y) (energy g s.0) p.unit (l.least s.0 s.1.width) in
              absurd (omega (arith, ints, less, bound, no_less, s.1.energy))) (λ le. le);
        },
      )

  least_energy : RelaxesAtLeast f g d u n → (x : List Bool) (v : ℤ) (y : List Bool)
      → IsLeastAt f x v → IsLeastState g y → u *ℤ energy g y ≡ n.scale *ℤ v +ℤ n.offset
  least_energy p x v y l s =
      let c = least_has_cost p x v l.has y s in
      let q = p.reached x l.has.width v l.has.whole in
      let scaled = scaled-le n.scale v c.0 p.positive (l.least (d.decoded y) c.0 c.1) in
      let bound = c.2 in
      let no_less = scaled-le u (energy g y) (energy g q.0) p.unit (s.least q.0 q.1.width) in
      omega (arith, ints, no_less, q.1.energy, bound, scaled)

  no_feasible_above : RelaxesAtLeast f g d u n → IsFeasible f
      → ((y : List Bool) × IsLeastState g y × (n.threshold <ℤ (u *ℤ energy g y))) → ⊥
  no_feasible_above p (x, v, h) (y, l, lt) =
      let s = p.reached x h.width v h.whole in
      let no_less = scaled-le u (energy g y) (energy g s.0) p.unit (l.least s.0 s.1.width) in
      omega (arith, ints, lt, no_less, s.1.energy, p.below x h.width v h.whole)

  above_of : RelaxesAtLeast f g d u n → ¬ (IsFeasible f)
      → (y : List Bool) × IsLeastState g y × (n.threshold <ℤ (u *ℤ energy g y))
  above_of p never =
      let y = least_state g in (
        y.0,
        y.1,
        elim (p.stands y.0 y.1.width) [
          | inl at ↦
              absurd (never (d.decoded y.0, at.0, record { width = p.width y.0 y.1.width; whole = at.1 }))
          | inr more ↦ elim more [
            | inl above ↦ above
            | inr other ↦
                absurd (never (other.0, other.1, record { width = other.2; whole = other.3 }))
          ]
        ],
      )

  least_found : RelaxesAtLeast f g d u n → (x : List Bool) → IsLeast f x
      → (y : List Bool) × IsLeastState g y × (d.decoded y ≡ x)
  least_found p x l =
      let s = p.reached x l.1.has.width l.0 l.1.has.whole in
      (s.0, reaching_is_least p x s.0 l.0 l.1 s.1, s.1.decodes)

-- ---- what relaxes stands

at_least_stands : (f g : Form) (d : Decoding) (u : ℤ) (n : Figures) → RelaxesAtLeast f g d u n
    → StandsAtLeast f g d u n
at_least_stands f g d u n p = record {
  exact = λ feasible x. (
    least_found p x,
    λ e.
        let l = least_decodes p feasible.0 feasible.1 feasible.2 e.0 e.1 in
        subst (IsLeast f) e.2 l,
  );
  decodes = λ feasible y l. least_decodes p feasible.0 feasible.1 feasible.2 y l;
  least_energy = least_energy p;
  infeasible = (above_of p, λ e feasible. no_feasible_above p feasible e);
}

-- in each scope
pub relaxed_stands : (scope : PenaltyScope) (f g : Form) (d : Decoding) (u : ℤ) (n : Figures)
    → RelaxesBy scope f g d u n → StandsAtLeast f g d u n
relaxed_stands scope f g d u n p = at_least_stands f g d u n (by_at_least scope f g d u n p)

pub standing_is_faithful : (source : Source) (demand : Demand) (m : Written) → IsWellFormed m
    → IsStated source demand m
    → StandsAtLeast source.form (form_of m) (decoding_of m) m.unit m.figures
    → Faithful source demand m
standing_is_faithful source demand m formed stated stands = record {
  well_formed = formed;
  stands = stands;
  stated = stated;
}

pub relaxed_is_faithful : (scope : PenaltyScope) (source : Source) (demand : Demand) (m : Written)
    → IsWellFormed m → IsStated source demand m
    → RelaxesBy scope source.form (form_of m) (decoding_of m) m.unit m.figures
    → Faithful source demand m
relaxed_is_faithful scope source demand m formed stated p =
    standing_is_faithful source demand m formed stated
    (relaxed_stands scope source.form (form_of m) (decoding_of m) m.unit m.figures p)
