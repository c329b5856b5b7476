-- Weights that no whole number divides.
use Rattle.std.specs.Prelude.{◌≡◌, ℕ, ◌<◌, ℤ, pos, ◌*ℤ◌, All}
use Rattle.bits_model.specs.Output.{Written}

-- z is a multiple of d
abbrev pub IsMultiple : ℕ → ℤ → Type 0
IsMultiple d z = (q : ℤ) × (z ≡ pos d *ℤ q)

-- no whole number above 1 divides all weights unless all are 0, and then the unit is 1
pub record IsReduced (m : Written) : Type 0 where
  pub coprime : (d : ℕ) → 1 < d → All (λ e. IsMultiple d e.weight) m.entries
      → All (λ e. e.weight ≡ pos 0) m.entries
  pub zero : All (λ e. e.weight ≡ pos 0) m.entries → m.unit ≡ pos 1
