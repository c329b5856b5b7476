-- What a check gives: the map with its parents and places on the graph.
use Rattle.std.specs.Prelude.{◌≡◌, ℕ, ◌≤◌, ◌<◌, ◌⊎◌, Bool, List, ◌++◌}
use Rattle.std.specs.List.{AllZip}
use Rattle.bits_model.specs.declared.output.Entry.{Entry}
use Rattle.ising_form.specs.Isings.{IsingContent, IsIsing}
use Rattle.chain_map.specs.Chains.{Joins, chain_of}
use Rattle.chain_map.specs.Valid.{IsCrossing, IsValid}
use Rattle.embedding_check.specs.Embeddings.{Embedding}
use Rattle.embedding_check.specs.Distances.{AreParents}

-- the first pair is not above the second, by the first numbers and then by the second ones
abbrev pub IsBefore : ℕ × ℕ → ℕ × ℕ → Type 0
IsBefore p q = (p.0 < q.0) ⊎ ((p.0 ≡ q.0) × (p.1 ≤ q.1))

-- the least of the joined pairs between two chains
pub record IsPlace (joined : Joins) (c d : List ℕ) (place : ℕ × ℕ) : Type 0 where
  pub crossing : IsCrossing joined c d place
  pub least : (pair : ℕ × ℕ) → IsCrossing joined c d pair → IsBefore place pair

-- the place of a coupling
abbrev pub IsPlaceOf : Joins → List (List ℕ) → Entry → ℕ × ℕ → Type 0
IsPlaceOf joined chains c place =
    IsPlace joined (chain_of chains c.first) (chain_of chains c.second) place

-- the places of couplings, one after another
abbrev pub ArePlaces : Joins → List (List ℕ) → List Entry → List (ℕ × ℕ) → Type 0
ArePlaces joined chains couplings places = AllZip (IsPlaceOf joined chains) couplings places

-- where the old places are those of some couplings, the new ones are those of these and of a row more
abbrev pub AddsPlaces : Joins → List (List ℕ) → List Entry → (old new : List (ℕ × ℕ)) → Type 0
AddsPlaces joined chains row old new =
    (before : List Entry) → ArePlaces joined chains before old
    → ArePlaces joined chains (before ++ row) new

-- valid chains of a form, with the parents of each and the places of the couplings
pub record IsLaidOut (joined : Joins) (exists : ℕ → Bool) (f : IsingContent) (chains up : List (List ℕ)) (pairs : List (ℕ × ℕ)) : Type 0 where
  pub valid : IsValid joined exists f chains
  pub parents : AllZip (AreParents joined) chains up
  pub places : ArePlaces joined chains f.couplings pairs
  pub form : IsIsing f

-- the given form and chains on the graph, with their parents and the places of the couplings
pub record IsChecked (joined : Joins) (n : ℕ) (f : IsingContent) (map : List (List ℕ)) (e : Embedding) : Type 0 where
  pub ising : e.ising ≡ f
  pub chains : e.chains ≡ map
  pub qubits : e.qubits ≡ n
  pub parents : AllZip (AreParents joined) e.chains e.parents
  pub places : AllZip (IsPlaceOf joined e.chains) e.ising.couplings e.places
