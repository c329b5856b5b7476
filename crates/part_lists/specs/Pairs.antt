-- Pairs of qubits, as couplers and as numbers.
use Rattle.std.specs.Prelude.{ℕ, ◌+◌, ◌*◌, ◌^◌, ◌≤◌, ◌<◌, ◌==◌, Bool, false, ◌&&◌, ◌||◌, List, length}
use Rattle.std.specs.List.{slice_index_or}
use Rattle.part_lists.specs.declared.parts.Part.{Part}
use Rattle.part_lists.specs.declared.parts.Part.TheVariants.{Qubit, Coupler}

-- it is the coupler of these two, in either order
abbrev pub is_coupler : ℕ → ℕ → Part → Bool
is_coupler p q (Qubit a) = false
is_coupler p q (Coupler a b) = ((a == p) && (b == q)) || ((a == q) && (b == p))

-- the number of a pair
abbrev pub pair_number : ℕ → ℕ → ℕ
pair_number a b = a * 2 ^ 32 + b

-- no number is above a later one
abbrev pub AreRising : List ℕ → Type 0
AreRising numbers =
    (i j : ℕ) → i ≤ j → j < length numbers → slice_index_or numbers i 0 ≤ slice_index_or numbers j 0
