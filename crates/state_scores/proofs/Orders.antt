-- Better is an order of scores: by cost, and at equal costs by energy.
use Rattle.state_scores.proofs.Common.{nat_tests, ◌≡◌, Bool, true, false, ◌||◌, ◌&&◌, not, ℤ, arith, int_lt, ints, Cost, Score, is_below, is_better}

-- a cost and an energy before another cost and energy
abbrev beats : Cost → ℤ → Cost → ℤ → Bool
beats a e b f = is_below a b || (not (is_below b a) && int_lt e f)

beats_over : (a : Cost) (e : ℤ) (b : Cost) (f : ℤ) (c : Cost) (g : ℤ) → beats a e b f ≡ true
    → beats c g b f ≡ false → beats a e c g ≡ true
beats_over a e b f c g p q = grind (arith, nat_tests, ints)

beats_asym : (a : Cost) (e : ℤ) (b : Cost) (f : ℤ) → beats a e b f ≡ true → beats b f a e ≡ false
beats_asym a e b f p = grind (arith, nat_tests, ints)

beats_self : (a : Cost) (e : ℤ) → beats a e a e ≡ false
beats_self a e = grind (arith, nat_tests, ints)

-- what is better than a score is better than what is no better than that
pub better_over : (s t u : Score) → is_better s t ≡ true → is_better u t ≡ false
    → is_better s u ≡ true
better_over s t u p q = beats_over s.cost s.energy t.cost t.energy u.cost u.energy p q

-- of two scores one at most is better
pub better_asym : (s t : Score) → is_better s t ≡ true → is_better t s ≡ false
better_asym s t p = beats_asym s.cost s.energy t.cost t.energy p

-- no score is better than itself
pub better_self : (s : Score) → is_better s s ≡ false
better_self s = beats_self s.cost s.energy
