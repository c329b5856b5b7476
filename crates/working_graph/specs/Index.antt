-- The index of a working graph: marks for its dead qubits, and the numbers of its dead couplers.
use Rattle.std.specs.Prelude.{◌≡◌, ℕ, ◌^◌, ◌==◌, ◌<◌, Bool, false, List, [], ◌∷◌, flat_map, min, max}
use Rattle.std.specs.List.{list_any, slice_index_or}
use Rattle.part_lists.specs.declared.parts.Part.{Part}
use Rattle.part_lists.specs.declared.parts.Part.TheVariants.{Qubit, Coupler}
use Rattle.part_lists.specs.Pairs.{is_coupler, pair_number, AreRising}
use Rattle.working_graph.specs.Working.{is_qubit}

-- ---- numbers

-- the number of two, in either order, is listed
abbrev pub has_pair : List ℕ → ℕ → ℕ → Bool
has_pair numbers p q = list_any (λ n. n == pair_number (min p q) (max p q)) numbers

-- the number of a part, where it is a coupler
abbrev pub coupler_number : Part → List ℕ
coupler_number (Qubit a) = []
coupler_number (Coupler a b) = pair_number (min a b) (max a b) ∷ []

-- the numbers of the couplers among these parts, in the order of the parts
abbrev pub numbers_of : List Part → List ℕ
numbers_of parts = flat_map coupler_number parts

-- ---- the index

-- marks say which qubits these parts are, and numbers in order which couplers
pub record IsIndex (parts : List Part) (marks : List Bool) (numbers : List ℕ) : Type 0 where
  pub dead : (q : ℕ) → slice_index_or marks q false ≡ list_any (is_qubit q) parts
  pub cut : (p q : ℕ) → p < 2 ^ 32 → q < 2 ^ 32 → has_pair numbers p q ≡ list_any (is_coupler p q) parts
  pub rising : AreRising numbers
