-- Which node's chain each qubit is in.
use Rattle.std.specs.Prelude.{◌≡◌, ℕ, ◌<◌, ◌≤◌, true, List, length}
use Rattle.std.specs.List.{slice_index_or}
use Rattle.bits_model.specs.Walks.{is_in}
use Rattle.chain_map.specs.Chains.{chain_of}

-- the owner of a qubit
abbrev pub owner_of : List ℕ → ℕ → ℕ
owner_of owners b = slice_index_or owners b 0

-- a number that no node has
abbrev pub nobody : ℕ
nobody = 4294967295

-- a qubit's owner is w exactly where it is in the chain of w
pub record AreOwners (chains : List (List ℕ)) (owners : List ℕ) : Type 0 where
  pub inside : (w b : ℕ) → w < length chains → is_in (chain_of chains w) b ≡ true
      → owner_of owners b ≡ w
  pub owned : (w b : ℕ) → w < length chains → b < length owners → owner_of owners b ≡ w
      → is_in (chain_of chains w) b ≡ true

-- the qubits from b on and before the end have the owner of b
pub record IsRun (owners : List ℕ) (b end : ℕ) : Type 0 where
  pub after : b < end
  pub within : end ≤ length owners
  pub same : (c : ℕ) → b ≤ c → c < end → owner_of owners c ≡ owner_of owners b

-- where the run of each qubit ends
pub record AreRuns (owners runs : List ℕ) : Type 0 where
  pub same : length runs ≡ length owners
  pub each : (b : ℕ) → b < length owners → IsRun owners b (slice_index_or runs b 0)
