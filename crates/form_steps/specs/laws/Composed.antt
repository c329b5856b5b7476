-- Laws of one relation after another. Nothing here has to be believed.
use Rattle.std.specs.Prelude.{◌≡◌, ℤ, pos, ◌+ℤ◌, ◌*ℤ◌, ◌≤ℤ◌, ◌<ℤ◌, Bool, List}
use Rattle.std.proofs.Common.{arith, ap, ◌∙◌, sym}
use Rattle.std.proofs.lemmas.Int.{ints}
use Rattle.base.proofs.Products.{times-le, times-lt, one_le_times, scaled_twice}
use Rattle.base.specs.declared.costs.Figures.{Figures}
use Rattle.base.specs.Costs.{Form, energy}
use Rattle.form_steps.specs.Relations.{Decoding, Keeps, Relaxes, Reduces, Reaches, ReachesIn, Joins, ExtendsLeast, decoding_after}
use Rattle.base.specs.Figures.{figures_after, figures_moved}
use Rattle.form_steps.specs.laws.Plain.{RelaxesPlainly, one-times, relaxes_in_one, relaxes_plainly}

-- a scale of 1 or more keeps an inequality
scaled-le : (a v w : ℤ) → pos 1 ≤ℤ a → v ≤ℤ w → (a *ℤ v) ≤ℤ (a *ℤ w)
scaled-le a v w p h = times-le a v w (omega (arith, ints)) h

-- a lower bound, scaled once more
pub bound_twice : (a1 b1 a2 b2 v e d : ℤ) → pos 1 ≤ℤ a2
    → (a1 *ℤ v +ℤ b1) ≤ℤ e → (a2 *ℤ e +ℤ b2) ≤ℤ d
    → ((a1 *ℤ a2) *ℤ v +ℤ (a2 *ℤ b1 +ℤ b2)) ≤ℤ d
bound_twice a1 b1 a2 b2 v e d p h k =
    omega (arith, ints, scaled_twice a2 a1 v b1 b2, scaled-le a2 (a1 *ℤ v +ℤ b1) e p h)

-- an upper bound, scaled once more
pub below_twice : (a1 b1 a2 b2 v t : ℤ) → pos 1 ≤ℤ a2 → (a1 *ℤ v +ℤ b1) ≤ℤ t
    → ((a1 *ℤ a2) *ℤ v +ℤ (a2 *ℤ b1 +ℤ b2)) ≤ℤ (a2 *ℤ t +ℤ b2)
below_twice a1 b1 a2 b2 v t p h =
    omega (arith, ints, scaled_twice a2 a1 v b1 b2, scaled-le a2 (a1 *ℤ v +ℤ b1) t p h)

-- above a threshold, scaled once more
pub above_twice : (a2 b2 t e d : ℤ) → pos 1 ≤ℤ a2 → t <ℤ e → (a2 *ℤ e +ℤ b2) ≤ℤ d
    → (a2 *ℤ t +ℤ b2) <ℤ d
above_twice a2 b2 t e d p h k = omega (arith, ints, times-lt a2 t e p h)

-- a state that reaches x, and one that reaches that state
pub Reaches-trans : {g h : Form} {d e : Decoding} (a1 b1 a2 b2 v : ℤ) {x y z : List Bool}
    → Reaches g d x (a1 *ℤ v +ℤ b1) y
    → Reaches h e y (a2 *ℤ energy g y +ℤ b2) z
    → Reaches h (decoding_after d e) x ((a1 *ℤ a2) *ℤ v +ℤ (a2 *ℤ b1 +ℤ b2)) z
Reaches-trans {d} a1 b1 a2 b2 v p q = record {
  width = q.width;
  decodes = ap d.decoded q.decodes ∙ p.decodes;
  energy = q.energy ∙ ap (λ e. a2 *ℤ e +ℤ b2) p.energy ∙ scaled_twice a2 a1 v b1 b2;
}

-- what keeps a form that keeps another keeps the other
pub keeps_after_keeps : {f g h : Form} {d e : Decoding} {a1 b1 a2 b2 : ℤ}
    → Keeps f g d a1 b1 → Keeps g h e a2 b2
    → Keeps f h (decoding_after d e) (a1 *ℤ a2) (a2 *ℤ b1 +ℤ b2)
keeps_after_keeps {f} {g} {h} {d} {e} {a1} {b1} {a2} {b2} p q = record {
  positive = one_le_times a1 a2 p.positive q.positive;
  width = λ z w. p.width (e.decoded z) (q.width z w);
  bound = λ z w.
      let first = p.bound (e.decoded z) (q.width z w) in
      let cost = energy f (d.decoded (e.decoded z)) in
      let middle = energy g (e.decoded z) in
      bound_twice a1 b1 a2 b2 cost middle (energy h z) q.positive first (q.bound z w);
  reached = λ x w.
      let y = p.reached x w in
      let z = q.reached y.0 y.1.width in
      (z.0, Reaches-trans a1 b1 a2 b2 (energy f x) y.1 z.1);
}

-- the same, where the first is reached in the unit 1
pub Reaches-in_one : {g h : Form} {d e : Decoding} (n : Figures) (a b v : ℤ) {x y z : List Bool}
    → ReachesIn (pos 1) g d x (n.scale *ℤ v +ℤ n.offset) y
    → Reaches h e y (a *ℤ energy g y +ℤ b) z
    → ReachesIn (pos 1) h (decoding_after d e) x
    ((n.scale *ℤ a) *ℤ v +ℤ (a *ℤ n.offset +ℤ b)) z
Reaches-in_one {g} {h} {d} n a b v {x} {y} {z} p q = record {
  width = q.width;
  decodes = ap d.decoded q.decodes ∙ p.decodes;
  energy = one-times (energy h z) ∙ q.energy
      ∙ ap (λ e. a *ℤ e +ℤ b) (sym (one-times (energy g y)) ∙ p.energy) ∙ scaled_twice a n.scale v n.offset b;
}

-- what keeps a form that relaxes a source in the unit 1 relaxes it
keeps_after_plain : {f g h : Form} {d e : Decoding} {n : Figures} {a b : ℤ}
    → RelaxesPlainly f g d n → Keeps g h e a b
    → RelaxesPlainly f h (decoding_after d e) (figures_after n a b)
keeps_after_plain {f} {g} {h} {d} {e} {n} {a} {b} p q = record {
  positive = one_le_times n.scale a p.positive q.positive;
  width = λ z w. p.width (e.decoded z) (q.width z w);
  bound = λ z w v whole.
      let first = p.bound (e.decoded z) (q.width z w) v whole in
      let middle = energy g (e.decoded z) in
      bound_twice n.scale n.offset a b v middle (energy h z) q.positive first (q.bound z w);
  above = λ z w infinite.
      let first = p.above (e.decoded z) (q.width z w) infinite in
      let middle = energy g (e.decoded z) in
      above_twice a b n.threshold middle (energy h z) q.positive first (q.bound z w);
  reached = λ x w v whole.
      let y = p.reached x w v whole in
      let z = q.reached y.0 y.1.width in
      (z.0, Reaches-trans n.scale n.offset a b v y.1 z.1);
  below = λ x w v whole.
      below_twice n.scale n.offset a b v n.threshold q.positive (p.below x w v whole);
  onto = λ x w.
      let y = p.onto x w in
      let z = q.reached y.0 y.1 in
      (z.0, z.1.width, ap d.decoded z.1.decodes ∙ y.2);
}

-- what keeps a form that relaxes a source relaxes the source
pub keeps_after_relaxes : {f g h : Form} {d e : Decoding} {n : Figures} {a b : ℤ}
    → Relaxes f g d (pos 1) n → Keeps g h e a b
    → Relaxes f h (decoding_after d e) (pos 1) (figures_after n a b)
keeps_after_relaxes p q = relaxes_in_one (keeps_after_plain (relaxes_plainly p) q)

-- a form that relaxes a source, divided by a unit, relaxes it in this unit
pub reduces_after_relaxes : {f g h : Form} {d : Decoding} {n : Figures} {u b : ℤ}
    → Relaxes f g d (pos 1) n → Reduces g h u b → Relaxes f h d u (figures_moved n b)
reduces_after_relaxes {f} {g} {h} {d} {n} {u} {b} r q =
    let p = relaxes_plainly r in
    record {
      unit = q.positive;
      positive = p.positive;
      width = λ y w. p.width y (w ∙ q.width);
      bound = λ y w v whole.
          omega (arith, ints, q.energy y (w ∙ q.width), p.bound y (w ∙ q.width) v whole);
      above = λ y w infinite.
          omega (arith, ints, q.energy y (w ∙ q.width), p.above y (w ∙ q.width) infinite);
      reached = λ x w v whole.
          let y = p.reached x w v whole in (
            y.0,
            record {
              width = y.1.width ∙ sym q.width;
              decodes = y.1.decodes;
              energy = omega (arith, ints, q.energy y.0 y.1.width, y.1.energy);
            },
          );
      below = λ x w v whole. omega (arith, ints, p.below x w v whole);
      onto = λ x w. let y = p.onto x w in (y.0, y.1 ∙ sym q.width, y.2);
    }

-- two steps that meet join the first form to the last
pub joins_both : {f g h : Form} {d e : Decoding} → Joins f g d → Joins g h e
    → Joins f h (decoding_after d e)
joins_both p q = record { source = p.source; target = q.target }

-- the second step's states are as wide as the first step gives them
pub widths_meet : {f g h : Form} {d e : Decoding} → Joins f g d → Joins g h e
    → d.target_width ≡ e.source_width
widths_meet p q = p.target ∙ sym q.source

-- a least energy stays the least where the next step reaches it and bounds all others
least_twice : (g h : Form) (y y' z z' : List Bool) (a b : ℤ) → pos 1 ≤ℤ a
    → energy g y ≤ℤ energy g y'
    → energy h z ≡ a *ℤ energy g y +ℤ b
    → (a *ℤ energy g y' +ℤ b) ≤ℤ energy h z'
    → energy h z ≤ℤ energy h z'
least_twice g h y y' z z' a b p l e k =
    omega (arith, ints, scaled-le a (energy g y) (energy g y') p l)

-- a least state that decodes to x, and one that reaches that state
pub least-trans : {f g h : Form} {d e : Decoding} {n : Figures} {a b : ℤ} {x y z : List Bool}
    → Keeps g h e a b → ExtendsLeast f g d n x y
    → Reaches h e y (a *ℤ energy g y +ℤ b) z
    → ExtendsLeast f h (decoding_after d e) (figures_after n a b) x z
least-trans {g} {h} {d} {e} {n} {a} {b} {y} {z} q p t = record {
  width = t.width;
  decodes = ap d.decoded t.decodes ∙ p.decodes;
  scaled = λ v w.
      t.energy ∙ ap (λ u. a *ℤ u +ℤ b) (p.scaled v w) ∙ scaled_twice a n.scale v n.offset b;
  least = λ z' w same.
      let first = p.least (e.decoded z') (q.width z' w) same in
      least_twice g h y (e.decoded z') z z' a b q.positive first t.energy (q.bound z' w);
}
