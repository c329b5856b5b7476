-- Laws of *RelaxesAtLeast* and *StaysAbove*, and so of each scope. Nothing here has to be believed.
use Rattle.std.specs.Prelude.{◌≡◌, ℤ, pos, ◌+ℤ◌, ◌*ℤ◌, ◌≤ℤ◌, ◌<ℤ◌, Bool, List}
use Rattle.std.proofs.Common.{arith, ap, refl, inl, inr, subst, sym, ◌∙◌}
use Rattle.std.proofs.lemmas.Int.{ints}
use Rattle.base.proofs.Products.{one_le_times, scaled_twice}
use Rattle.base.specs.declared.costs.Cost.{Cost}
use Rattle.base.specs.declared.costs.Cost.TheVariants.{Whole, Infinite}
use Rattle.base.specs.declared.costs.Figures.{Figures}
use Rattle.form_steps.specs.declared.scope.PenaltyScope.{PenaltyScope}
use Rattle.form_steps.specs.declared.scope.PenaltyScope.TheVariants.{Global, Local}
use Rattle.base.specs.Costs.{Form, energy}
use Rattle.base.specs.Figures.{figures_after, figures_moved}
use Rattle.form_steps.specs.Relations.{Decoding, Keeps, Relaxes, RelaxesAtLeast, RelaxesBy, StandsAt, StaysAbove, Reduces, decoding_after}
use Rattle.form_steps.specs.laws.Plain.{one-times}
use Rattle.form_steps.specs.laws.Composed.{above_twice, bound_twice, below_twice, Reaches-in_one, keeps_after_relaxes, reduces_after_relaxes}

-- ---- what relaxes does so at least

-- a cost is whole or infinite
stands_by : (f : Form) (n : Figures) (x : List Bool) (e : ℤ) (c : Cost) → f.cost x ≡ c
    → ((v : ℤ) → f.cost x ≡ Whole v → (n.scale *ℤ v +ℤ n.offset) ≤ℤ e)
    → (f.cost x ≡ Infinite → n.threshold <ℤ e) → StandsAt f n x e
stands_by f n x e (Whole v) same bound above = inl (v, same, bound v same)
stands_by f n x e Infinite same bound above = inr (inl (above same))

-- what relaxes a form does so at least
pub relaxes_at_least : {f g : Form} {d : Decoding} {u : ℤ} {n : Figures} → Relaxes f g d u n
    → RelaxesAtLeast f g d u n
relaxes_at_least {f} {g} {d} {u} {n} p = record {
  unit = p.unit;
  positive = p.positive;
  width = p.width;
  stands = λ y w.
      stands_by f n (d.decoded y) (u *ℤ energy g y) (f.cost (d.decoded y)) refl (p.bound y w) (p.above y w);
  reached = p.reached;
  below = p.below;
  onto = p.onto;
}

-- and no state lies below the whole cost that it decodes to
pub relaxes_stays_above : {f g : Form} {d : Decoding} {u : ℤ} {n : Figures} → Relaxes f g d u n
    → StaysAbove f g d u n
relaxes_stays_above p = record { bound = p.bound }

-- in each scope a form relaxes at least
pub by_at_least : (scope : PenaltyScope) (f g : Form) (d : Decoding) (u : ℤ) (n : Figures)
    → RelaxesBy scope f g d u n → RelaxesAtLeast f g d u n
by_at_least Global f g d u n p = relaxes_at_least p
by_at_least Local f g d u n p = p

-- ---- after a step that keeps the form

-- what stands at an energy stands, scaled and moved, at one that is no less
stands_twice : (f : Form) (n : Figures) (a b : ℤ) (x : List Bool) (e d : ℤ) → pos 1 ≤ℤ a
    → StandsAt f n x e → (a *ℤ e +ℤ b) ≤ℤ d → StandsAt f (figures_after n a b) x d
stands_twice f n a b x e d p (inl s) k =
    inl (s.0, s.1, bound_twice n.scale n.offset a b s.0 e d p s.2 k)
stands_twice f n a b x e d p (inr (inl s)) k = inr (inl (above_twice a b n.threshold e d p s k))
stands_twice f n a b x e d p (inr (inr s)) k =
    let below = above_twice a b (n.scale *ℤ s.1 +ℤ n.offset) e d p s.4 k in
    let scaled = scaled_twice a n.scale s.1 n.offset b in
    inr (inr (s.0, s.1, s.2, s.3, omega (arith, ints, below, scaled)))

-- what keeps a form that relaxes a source at least relaxes it at least
pub keeps_after_at_least : {f g h : Form} {d e : Decoding} {n : Figures} {a b : ℤ}
    → RelaxesAtLeast f g d (pos 1) n → Keeps g h e a b
    → RelaxesAtLeast f h (decoding_after d e) (pos 1) (figures_after n a b)
keeps_after_at_least {f} {g} {h} {d} {e} {n} {a} {b} p q = record {
  unit = p.unit;
  positive = one_le_times n.scale a p.positive q.positive;
  width = λ z w. p.width (e.decoded z) (q.width z w);
  stands = λ z w.
      let y = e.decoded z in
      let first = subst (StandsAt f n (d.decoded y)) (one-times (energy g y)) (p.stands y (q.width z w)) in
      subst (StandsAt f (figures_after n a b) (d.decoded y)) (sym (one-times (energy h z)))
      (stands_twice f n a b (d.decoded y) (energy g y) (energy h z) q.positive first (q.bound z w));
  reached = λ x w v whole.
      let y = p.reached x w v whole in
      let z = q.reached y.0 y.1.width in
      (z.0, Reaches-in_one n a b v y.1 z.1);
  below = λ x w v whole.
      below_twice n.scale n.offset a b v n.threshold q.positive (p.below x w v whole);
  onto = λ x w.
      let y = p.onto x w in
      let z = q.reached y.0 y.1 in
      (z.0, z.1.width, ap d.decoded z.1.decodes ∙ y.2);
}

-- so in each scope
pub keeps_after_by : (scope : PenaltyScope) (f g h : Form) (d e : Decoding) (n : Figures) (a b : ℤ)
    → RelaxesBy scope f g d (pos 1) n → Keeps g h e a b
    → RelaxesBy scope f h (decoding_after d e) (pos 1) (figures_after n a b)
keeps_after_by Global f g h d e n a b p q = keeps_after_relaxes p q
keeps_after_by Local f g h d e n a b p q = keeps_after_at_least p q

-- no state of what keeps a form lies below a whole cost where none of the form's does
pub keeps_stays_above : {f g h : Form} {d e : Decoding} {n : Figures} {a b : ℤ}
    → StaysAbove f g d (pos 1) n → Keeps g h e a b
    → StaysAbove f h (decoding_after d e) (pos 1) (figures_after n a b)
keeps_stays_above {f} {g} {h} {d} {e} {n} {a} {b} p q = record {
  bound = λ z w v whole.
      let y = e.decoded z in
      let first : (n.scale *ℤ v +ℤ n.offset) ≤ℤ energy g y =
      omega (arith, ints, one-times (energy g y), p.bound y (q.width z w) v whole) in
      let both = bound_twice n.scale n.offset a b v (energy g y) (energy h z) q.positive first (q.bound z w) in
      omega (arith, ints, one-times (energy h z), both);
}

-- ---- divided by a unit

-- what stands at an energy stands, moved, at one that is as much more
pub stands_moved : (f : Form) (n : Figures) (b : ℤ) (x : List Bool) (e d : ℤ) → d ≡ e +ℤ b
    → StandsAt f n x e → StandsAt f (figures_moved n b) x d
stands_moved f n b x e d same (inl s) =
    let at = s.2 in inl (s.0, s.1, omega (arith, ints, same, at))
stands_moved f n b x e d same (inr (inl s)) = inr (inl (omega (arith, ints, same, s)))
stands_moved f n b x e d same (inr (inr s)) =
    let at = s.4 in inr (inr (s.0, s.1, s.2, s.3, omega (arith, ints, same, at)))

-- a form that relaxes a source at least, divided by a unit, does so in this unit
pub reduces_after_at_least : {f g h : Form} {d : Decoding} {n : Figures} {u b : ℤ}
    → RelaxesAtLeast f g d (pos 1) n → Reduces g h u b
    → RelaxesAtLeast f h d u (figures_moved n b)
reduces_after_at_least {f} {g} {h} {d} {n} {u} {b} p q = record {
  unit = q.positive;
  positive = p.positive;
  width = λ y w. p.width y (w ∙ q.width);
  stands = λ y w.
      let wide = w ∙ q.width in
      stands_moved f n b (d.decoded y) (pos 1 *ℤ energy g y) (u *ℤ energy h y)
      (omega (arith, ints, q.energy y wide, one-times (energy g y))) (p.stands y wide);
  reached = λ x w v whole.
      let y = p.reached x w v whole in (
        y.0,
        record {
          width = y.1.width ∙ sym q.width;
          decodes = y.1.decodes;
          energy = omega (arith, ints, q.energy y.0 y.1.width, one-times (energy g y.0), y.1.energy);
        },
      );
  below = λ x w v whole. omega (arith, ints, p.below x w v whole);
  onto = λ x w. let y = p.onto x w in (y.0, y.1 ∙ sym q.width, y.2);
}

-- so in each scope
pub reduces_after_by : (scope : PenaltyScope) (f g h : Form) (d : Decoding) (n : Figures) (u b : ℤ)
    → RelaxesBy scope f g d (pos 1) n → Reduces g h u b
    → RelaxesBy scope f h d u (figures_moved n b)
reduces_after_by Global f g h d n u b p q = reduces_after_relaxes p q
reduces_after_by Local f g h d n u b p q = reduces_after_at_least p q

-- and no state lies lower
pub reduces_stays_above : {f g h : Form} {d : Decoding} {n : Figures} {u b : ℤ}
    → StaysAbove f g d (pos 1) n → Reduces g h u b → StaysAbove f h d u (figures_moved n b)
reduces_stays_above {f} {g} {h} {d} {n} {u} {b} p q = record {
  bound = λ y w v whole.
      let wide = w ∙ q.width in
      omega (arith, ints, q.energy y wide, one-times (energy g y), p.bound y wide v whole);
}
