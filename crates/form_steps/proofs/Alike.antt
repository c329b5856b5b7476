-- What relaxes a form relaxes every form with the same costs, by any decoding that agrees.
use Rattle.form_steps.proofs.Common.{◌≡◌, ℤ, Bool, List, ap, sym, ◌∙◌, length, Cost, Figures, Form, IsOf, energy, ◌*ℤ◌, Decoding, Relaxes, RelaxesAtLeast, RelaxesBy, StandsAt, StaysAbove, HasSameCosts, DecodesAlike, inl, inr, subst}
use Rattle.form_steps.specs.declared.scope.PenaltyScope.{PenaltyScope}
use Rattle.form_steps.specs.declared.scope.PenaltyScope.TheVariants.{Global, Local}
use Rattle.base.specs.declared.costs.Cost.TheVariants.{Whole, Infinite}

-- the cost of what the one decodes to, as that of what the other decodes to
cost_alike : (f f' g : Form) (d d' : Decoding) → HasSameCosts f f' → DecodesAlike g d d'
    → (y : List Bool) → IsOf g y → (c : Cost) → f'.cost (d'.decoded y) ≡ c
    → f.cost (d.decoded y) ≡ c
cost_alike f f' g d d' same alike y w c e =
    ap f.cost (sym (alike y w)) ∙ same.costs (d'.decoded y) ∙ e

pub relaxes_alike : (f f' g : Form) (d d' : Decoding) (u : ℤ) (n : Figures) → HasSameCosts f f'
    → DecodesAlike g d d' → Relaxes f g d u n → Relaxes f' g d' u n
relaxes_alike f f' g d d' u n same alike p = record {
  unit = p.unit;
  positive = p.positive;
  width = λ y w. ap length (alike y w) ∙ p.width y w ∙ same.width;
  bound = λ y w v whole. p.bound y w v (cost_alike f f' g d d' same alike y w (Whole v) whole);
  above = λ y w infinite. p.above y w (cost_alike f f' g d d' same alike y w Infinite infinite);
  reached = λ x w v whole.
      let y = p.reached x (w ∙ sym same.width) v (same.costs x ∙ whole) in (
        y.0,
        record {
          width = y.1.width;
          decodes = alike y.0 y.1.width ∙ y.1.decodes;
          energy = y.1.energy;
        },
      );
  below = λ x w v whole. p.below x (w ∙ sym same.width) v (same.costs x ∙ whole);
  onto = λ x w.
      let y = p.onto x (w ∙ sym same.width) in (y.0, y.1, alike y.0 y.1 ∙ y.2);
}

-- what stands at an energy for one of them stands there for the other
stands_alike : (f f' : Form) (n : Figures) (x : List Bool) (e : ℤ) → HasSameCosts f f'
    → StandsAt f n x e → StandsAt f' n x e
stands_alike f f' n x e same (inl s) = inl (s.0, sym (same.costs x) ∙ s.1, s.2)
stands_alike f f' n x e same (inr (inl s)) = inr (inl s)
stands_alike f f' n x e same (inr (inr s)) =
    inr (inr (s.0, s.1, s.2 ∙ same.width, sym (same.costs s.0) ∙ s.3, s.4))

at_least_alike : (f f' g : Form) (d d' : Decoding) (u : ℤ) (n : Figures) → HasSameCosts f f'
    → DecodesAlike g d d' → RelaxesAtLeast f g d u n → RelaxesAtLeast f' g d' u n
at_least_alike f f' g d d' u n same alike p = record {
  unit = p.unit;
  positive = p.positive;
  width = λ y w. ap length (alike y w) ∙ p.width y w ∙ same.width;
  stands = λ y w.
      stands_alike f f' n (d'.decoded y) (u *ℤ energy g y) same
      (subst (λ x. StandsAt f n x (u *ℤ energy g y)) (sym (alike y w)) (p.stands y w));
  reached = λ x w v whole.
      let y = p.reached x (w ∙ sym same.width) v (same.costs x ∙ whole) in (
        y.0,
        record {
          width = y.1.width;
          decodes = alike y.0 y.1.width ∙ y.1.decodes;
          energy = y.1.energy;
        },
      );
  below = λ x w v whole. p.below x (w ∙ sym same.width) v (same.costs x ∙ whole);
  onto = λ x w.
      let y = p.onto x (w ∙ sym same.width) in (y.0, y.1, alike y.0 y.1 ∙ y.2);
}

pub by_alike : (scope : PenaltyScope) (f f' g : Form) (d d' : Decoding) (u : ℤ) (n : Figures)
    → HasSameCosts f f' → DecodesAlike g d d' → RelaxesBy scope f g d u n
    → RelaxesBy scope f' g d' u n
by_alike Global f f' g d d' u n same alike p = relaxes_alike f f' g d d' u n same alike p
by_alike Local f f' g d d' u n same alike p = at_least_alike f f' g d d' u n same alike p

pub stays_above_alike : (f f' g : Form) (d d' : Decoding) (u : ℤ) (n : Figures) → HasSameCosts f f'
    → DecodesAlike g d d' → StaysAbove f g d u n → StaysAbove f' g d' u n
stays_above_alike f f' g d d' u n same alike p = record {
  bound = λ y w v whole. p.bound y w v (cost_alike f f' g d d' same alike y w (Whole v) whole);
}
