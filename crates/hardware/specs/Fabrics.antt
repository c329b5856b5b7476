-- What a contract sees of a graph of qubits.
use Rattle.std.specs.Prelude.{ℕ, Bool}

-- so many numbers, the ones of them that are qubits, and which two qubits are joined
pub record Fabric : Type 0 where
  pub qubits : ℕ
  pub exists : ℕ → Bool
  pub joined : ℕ → ℕ → Bool
