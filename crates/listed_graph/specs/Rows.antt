-- The rows of a graph: the numbers of all its joins, each from both of its ends, in order. Those
-- from one qubit stand next to each other.
use Rattle.std.specs.Prelude.{◌≡◌, ℕ, ◌+◌, ◌*◌, ◌^◌, ◌%◌, ◌≤◌, ◌<◌, ◌==◌, Bool, false, List, [], ◌∷◌, length, All, nat_le}
use Rattle.std.specs.List.{list_any, flat_map, slice_index_or, position_or_len}
use Rattle.hardware.specs.declared.hardware.Others.{Others}
use Rattle.part_lists.specs.declared.parts.Part.{Part}
use Rattle.part_lists.specs.declared.parts.Part.TheVariants.{Qubit, Coupler}
use Rattle.part_lists.specs.Pairs.{pair_number, AreRising}
use Rattle.listed_graph.specs.Complete.{most}
use Rattle.listed_graph.specs.Parts.{qubits_of, exists_in, joined_in}

-- the numbers of a part: of a coupler, from both its ends
abbrev pub joins_of_part : Part → List ℕ
joins_of_part (Qubit a) = []
joins_of_part (Coupler a b) = pair_number a b ∷ pair_number b a ∷ []

-- the numbers of these parts, in their order
abbrev pub joins_of : List Part → List ℕ
joins_of parts = flat_map joins_of_part parts

-- the join is one of these
abbrev pub has_join : List ℕ → ℕ → ℕ → Bool
has_join joins a b = list_any (λ n. n == pair_number a b) joins

-- the end of a join is a qubit that may stand
abbrev pub EndsLow : ℕ → Type 0
EndsLow n = n % 2 ^ 32 < most

-- the place of the first number from this one on
abbrev pub place_from : List ℕ → ℕ → ℕ
place_from joins from = position_or_len (nat_le from) joins

-- the places of the joins from a qubit
abbrev pub others_of : List ℕ → ℕ → Others
others_of joins a = record {
  start = place_from joins (a * 2 ^ 32);
  end = place_from joins ((a + 1) * 2 ^ 32);
}

-- the qubit that the join at a place leads to
abbrev pub other_of : List ℕ → ℕ → ℕ
other_of joins k = slice_index_or joins k 0 % 2 ^ 32

-- marks say which numbers the parts name, and rows say their joins
pub record IsIndexed (parts : List Part) (marks : List Bool) (rows : List ℕ) : Type 0 where
  pub apart : (a : ℕ) → joined_in parts a a ≡ false
  pub sized : length marks ≡ qubits_of parts
  pub few : length marks ≤ most
  pub named : (q : ℕ) → slice_index_or marks q false ≡ exists_in parts q
  pub joined : (a b : ℕ) → a < 2 ^ 32 → b < 2 ^ 32 → has_join rows a b ≡ joined_in parts a b
  pub rising : AreRising rows
  pub low : All EndsLow rows
