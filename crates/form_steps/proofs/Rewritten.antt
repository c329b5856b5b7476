-- A source that is rewritten with more variables, and a form that relaxes what it becomes.
--
-- What is above the threshold in the longer source lies above every whole cost of the shorter one,
-- since each of these is reached at most at the threshold.
use Rattle.form_steps.proofs.Common.{nat_tests, pos, ◌≡◌, ℕ, ◌-◌, ℤ, ◌+ℤ◌, ◌*ℤ◌, ◌≤ℤ◌, ◌<ℤ◌, Bool, false, List, ◌++◌, length, take, replicate, refl, ap, ◌∙◌, arith, subst, ints, take-append_seam, length-append, length-replicate, length-take-le, times-le, Cost, Figures, Form, IsOf, energy, Decoding, Relaxes, RelaxesAtLeast, RelaxesBy, StandsAt, inl, inr, ReachesIn, Rewrites, first_decoded}
use Rattle.form_steps.specs.declared.scope.PenaltyScope.{PenaltyScope}
use Rattle.form_steps.specs.declared.scope.PenaltyScope.TheVariants.{Global, Local}
use Rattle.base.specs.declared.costs.Cost.TheVariants.{Whole, Infinite}

-- ---- costs

-- a cost is whole or infinite
pub whole_or_infinite : {P : Type 0} (c : Cost) → ((v : ℤ) → c ≡ Whole v → P) → (c ≡ Infinite → P)
    → P
whole_or_infinite (Whole v) w i = w v refl
whole_or_infinite Infinite w i = i refl

one_whole : (c : Cost) (v w : ℤ) → c ≡ Whole v → c ≡ Whole w → v ≡ w
one_whole c v w e f = cc

-- ---- what relaxes

take-front : (n : ℕ) (a b : List Bool) → length a ≡ n → take n (a ++ b) ≡ a
take-front n a b w = subst (λ k. take k (a ++ b) ≡ a) w (take-append_seam a b)

-- the first bits of a longer assignment are an assignment
pub first_is_of : {f f' : Form} → Rewrites f f' → (x : List Bool) → IsOf f' x
    → IsOf f (take f.bits x)
first_is_of {f} {f'} r x w = let m = r.more in length-take-le f.bits x (omega (arith, w, m))

-- an assignment with bits of 0 behind it
with_zeros : {f f' : Form} → Rewrites f f' → (x : List Bool) → IsOf f x
    → (x' : List Bool) × IsOf f' x' × (take f.bits x' ≡ x)
with_zeros {f} {f'} r x w =
    let zeros : List Bool = replicate (f'.bits - f.bits) false in
    let m = r.more in
    let count : length zeros ≡ f'.bits - f.bits = length-replicate (f'.bits - f.bits) false in
    (x ++ zeros, length-append x zeros ∙ omega (arith, w, m, count), take-front f.bits x zeros w)

module _ {f f' g : Form} {d : Decoding} {u : ℤ} {n : Figures} (r : Rewrites f f')
    (p : Relaxes f' g d u n) where
  below : (x : List Bool) → IsOf f x → (v : ℤ) → f.cost x ≡ Whole v
      → (n.scale *ℤ v +ℤ n.offset) ≤ℤ n.threshold
  below x w v whole = let s = r.reached x w v whole in p.below s.0 s.1 v s.3

  bound : (y : List Bool) → IsOf g y → (v : ℤ) → f.cost (take f.bits (d.decoded y)) ≡ Whole v
      → (n.scale *ℤ v +ℤ n.offset) ≤ℤ (u *ℤ energy g y)
  bound y w v whole =
      let x = d.decoded y in
      let wide = p.width y w in
      whole_or_infinite (f'.cost x) (λ c e.
      let first = r.bound x wide c e in
      let same = one_whole (f.cost (take f.bits x)) first.0 v first.1 whole in
      let le : v ≤ℤ c = subst (λ t. t ≤ℤ c) same first.2 in
      let positive = p.positive in
      let scaled = times-le n.scale v c (omega (arith, ints, positive)) le in
      omega (arith, ints, scaled, p.bound y w c e)) (λ e.
      let narrow = first_is_of r x wide in
      omega (arith, ints, p.above y w e, below (take f.bits x) narrow v whole))

  above : (y : List Bool) → IsOf g y → f.cost (take f.bits (d.decoded y)) ≡ Infinite
      → n.threshold <ℤ (u *ℤ energy g y)
  above y w infinite = grind (arith, nat_tests, ints)

  reached : (x : List Bool) → IsOf f x → (v : ℤ) → f.cost x ≡ Whole v
      → (y : List Bool) × ReachesIn u g (first_decoded f.bits d) x (n.scale *ℤ v +ℤ n.offset) y
  reached x w v whole = grind (arith, nat_tests, ints)

  onto : (x : List Bool) → IsOf f x → (y : List Bool) × IsOf g y × (take f.bits (d.decoded y) ≡ x)
  onto x w =
      let s = with_zeros r x w in
      let y = p.onto s.0 s.1 in
      (y.0, y.1, ap (take f.bits) y.2 ∙ s.2)

  pub rewritten_relaxes : Relaxes f g (first_decoded f.bits d) u n
  rewritten_relaxes = record {
    unit = p.unit;
    positive = p.positive;
    width = λ y w. first_is_of r (d.decoded y) (p.width y w);
    bound = bound;
    above = above;
    reached = reached;
    below = below;
    onto = onto;
  }

-- ---- what relaxes at least

-- what stands at an energy for the longer source stands there for the shorter one
stands_first : {f f' : Form} → Rewrites f f' → (n : Figures) → pos 1 ≤ℤ n.scale → (x : List Bool)
    → IsOf f' x → (e : ℤ) → StandsAt f' n x e → StandsAt f n (take f.bits x) e
stands_first {f} {f'} r n positive x w e (inl s) =
    let t = r.bound x w s.0 s.1 in
    let scaled = times-le n.scale t.0 s.0 (omega (arith, ints, positive)) t.2 in
    let at = s.2 in
    inl (t.0, t.1, omega (arith, ints, scaled, at))
stands_first r n positive x w e (inr (inl s)) = inr (inl s)
stands_first {f} {f'} r n positive x w e (inr (inr s)) =
    let t = r.bound s.0 s.2 s.1 s.3 in
    let scaled = times-le n.scale t.0 s.1 (omega (arith, ints, positive)) t.2 in
    let at = s.4 in
    inr (inr (take f.bits s.0, t.0, first_is_of r s.0 s.2, t.1, omega (arith, ints, scaled, at)))

module _ {f f' g : Form} {d : Decoding} {u : ℤ} {n : Figures} (r : Rewrites f f')
    (p : RelaxesAtLeast f' g d u n) where
  reached_first : (x : List Bool) → IsOf f x → (v : ℤ) → f.cost x ≡ Whole v
      → (y : List Bool) × ReachesIn u g (first_decoded f.bits d) x (n.scale *ℤ v +ℤ n.offset) y
  reached_first x w v whole = grind (arith, nat_tests, ints)

  onto_first : (x : List Bool) → IsOf f x
      → (y : List Bool) × IsOf g y × (take f.bits (d.decoded y) ≡ x)
  onto_first x w =
      let s = with_zeros r x w in
      let y = p.onto s.0 s.1 in
      (y.0, y.1, ap (take f.bits) y.2 ∙ s.2)

  rewritten_at_least : RelaxesAtLeast f g (first_decoded f.bits d) u n
  rewritten_at_least = record {
    unit = p.unit;
    positive = p.positive;
    width = λ y w. first_is_of r (d.decoded y) (p.width y w);
    stands = λ y w.
        stands_first r n p.positive (d.decoded y) (p.width y w) (u *ℤ energy g y) (p.stands y w);
    reached = reached_first;
    below = λ x w v whole. let s = r.reached x w v whole in p.below s.0 s.1 v s.3;
    onto = onto_first;
  }

pub rewritten_by : (scope : PenaltyScope) (f f' g : Form) (d : Decoding) (u : ℤ) (n : Figures)
    → Rewrites f f' → RelaxesBy scope f' g d u n
    → RelaxesBy scope f g (first_decoded f.bits d) u n
rewritten_by Global f f' g d u n r p = rewritten_relaxes r p
rewritten_by Local f f' g d u n r p = rewritten_at_least r p
