-- Where the joins of a qubit can be: in a span of numbers, and at its others.
use Rattle.std.specs.Prelude.{◌≡◌, ℕ, ◌≤◌, ◌<◌, ◌⊎◌}
use Rattle.hardware.specs.declared.span.Span.{Span}
use Rattle.hardware.specs.declared.hardware.Others.{Others}

-- a number of the span
pub record IsFaced (span : Span) (b : ℕ) : Type 0 where
  pub from : span.start ≤ b
  pub below : b < span.end

-- a place of an other of a qubit
pub record IsOther (others : Others) (k : ℕ) : Type 0 where
  pub from : others.start ≤ k
  pub below : k < others.end

-- one of the others
abbrev pub IsOneOf : Others → (ℕ → ℕ) → ℕ → Type 0
IsOneOf others other b = (k : ℕ) × IsOther others k × (other k ≡ b)

-- a number of the span, or one of the others
abbrev pub CanBeJoined : Span → Others → (ℕ → ℕ) → ℕ → Type 0
CanBeJoined span others other b = IsFaced span b ⊎ IsOneOf others other b
