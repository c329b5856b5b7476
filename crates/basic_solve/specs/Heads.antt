-- Lists of nodes, of which those that are empty stand at one place.
use Rattle.std.specs.Prelude.{◌≡◌, ◌≢◌, ℕ, ◌<◌, List, [], length, map}
use Rattle.std.specs.List.{slice_index_or}

-- the list at the place of each node
abbrev pub lists_at : {A : Type 0} → List ℕ → List (List A) → List (List A)
lists_at heads lists = map (λ head. slice_index_or lists head []) heads

-- each node has the place of a list, and no two have the same but 0, where the list is empty
pub record AreHeads {A : Type 0} (heads : List ℕ) (lists : List (List A)) : Type 0 where
  pub none : slice_index_or lists 0 [] ≡ []
  pub within : (i : ℕ) → slice_index_or heads i 0 < length lists
  pub apart : (i j : ℕ) → 0 < slice_index_or heads i 0
      → slice_index_or heads i 0 ≡ slice_index_or heads j 0 → i ≡ j

-- the lists after the one at this place is taken out
pub record IsTaken {A : Type 0} (head : ℕ) (lists left : List (List A)) : Type 0 where
  pub some : 0 < length left
  pub gone : slice_index_or left head [] ≡ []
  pub kept : (k : ℕ) → k ≢ head → k < length lists
      → (k < length left) × (slice_index_or left k [] ≡ slice_index_or lists k [])
