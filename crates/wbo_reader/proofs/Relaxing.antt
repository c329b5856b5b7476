-- A state that extends a list of a rewritten form extends the list's first bits in the form itself.
use Rattle.wbo_reader.proofs.Common.{ℤ, pos, ◌*ℤ◌, ◌≤ℤ◌, take, ap, ◌∙◌, arith, ints, by_lt_z, times-lt, energy, Relaxes, first_decoded, rewritten_relaxes, ExtendsAfterRewrites}

-- a factor of at least 1 can be taken off both sides
unscaled : (u a b : ℤ) → pos 1 ≤ℤ u → (u *ℤ a) ≤ℤ (u *ℤ b) → a ≤ℤ b
unscaled u a b p le =
    by_lt_z b a (λ less. absurd (omega (arith, ints, times-lt u b a p less))) (λ yes. yes)

pub extends_after_rewrites : ExtendsAfterRewrites
extends_after_rewrites f f' g d u n x' y p r w decodes same scaled =
    let first : Relaxes f g (first_decoded f.bits d) u n = rewritten_relaxes p r in
    record {
      width = w;
      decodes = ap (take f.bits) decodes;
      scaled = λ v whole. scaled v (same ∙ whole);
      least = λ v whole y' w' decodes'. unscaled u (energy g y) (energy g y') r.unit
          (let more = first.bound y' w' v (ap f.cost decodes' ∙ whole) in
          omega (arith, ints, scaled v (same ∙ whole)));
    }
