-- The places for a clique on a working graph.
use Rattle.std.specs.Prelude.{◌≡◌, ◌<◌, ℕ, zero, suc, ◌/◌, ◌%◌, Bool, true, false, ◌&&◌, List, [], ◌∷◌, ◌++◌, length, map, take, if◌then◌else◌}
use Rattle.std.specs.List.{list_any, list_all, slice_index_or}
use Rattle.bits_model.specs.Walks.{is_in}
use Rattle.ising_form.specs.Isings.{IsingContent, IsIsing}
use Rattle.chain_map.specs.Chains.{Joins}
use Rattle.chain_map.specs.Cliques.{clique_places, down_qubit, along_qubit, clique_chain}
use Rattle.hardware.specs.Fabrics.{Fabric}
use Rattle.embedding_check.specs.Fabrics.{IsValidOn}
use Rattle.chimera_graph.specs.declared.chimera.Chimera.{Chimera}
use Rattle.working_graph.specs.Working.{WorkingGraph, fabric_of}
use Rattle.part_lists.specs.Pairs.{is_coupler, pair_number}

-- each next two are joined
abbrev pub are_linked : Joins → List ℕ → Bool
are_linked joined [] = true
are_linked joined (a ∷ []) = true
are_linked joined (a ∷ b ∷ qs) = joined a b && are_linked joined (b ∷ qs)

-- all qubits of a chain exist, and each next two are joined
abbrev pub is_whole : Fabric → List ℕ → Bool
is_whole fabric chain = list_all fabric.exists chain && are_linked fabric.joined chain

-- some qubit of the one chain is joined to some qubit of the other
abbrev pub are_coupled : Joins → List ℕ → List ℕ → Bool
are_coupled joined c d = list_any (λ a. list_any (joined a) d) c

-- a place may be taken after these: it is whole, and its chain is coupled to each of theirs
abbrev pub is_free : Fabric → (ℕ → List ℕ) → List ℕ → ℕ → Bool
is_free fabric chain before v =
    is_whole fabric (chain v)
    && list_all (λ u. are_coupled fabric.joined (chain v) (chain u)) before

-- a place more, where it may be taken
abbrev pub taken_next : Fabric → (ℕ → List ℕ) → List ℕ → ℕ → List ℕ
taken_next fabric chain before v =
    if is_free fabric chain before v then before ++ v ∷ [] else before

-- the places that are taken of the first n, from 0 upwards
abbrev pub taken_of : Fabric → (ℕ → List ℕ) → ℕ → List ℕ
taken_of fabric chain zero = []
taken_of fabric chain (suc n) = taken_next fabric chain (taken_of fabric chain n) n

-- the places that are taken for a clique
abbrev pub taken_places : WorkingGraph → List ℕ
taken_places w = taken_of (fabric_of w) (clique_chain w.graph) (clique_places w.graph)

-- the chains of so many nodes: node n stands on the n-th place that is taken
abbrev pub working_clique : WorkingGraph → ℕ → List (List ℕ)
working_clique w nodes = map (clique_chain w.graph) (take nodes (taken_places w))

-- they are valid for every Ising form of so many nodes
abbrev pub IsForWorkingClique : WorkingGraph → ℕ → List (List ℕ) → Type 0
IsForWorkingClique w nodes chains =
    (f : IsingContent) → IsIsing f → length f.fields ≡ nodes → IsValidOn (fabric_of w) f chains

-- ---- where two places meet

-- the coupler of two qubits is dead
abbrev pub is_cut : WorkingGraph → ℕ → ℕ → Bool
is_cut w p q = list_any (is_coupler p q) w.parts

-- the coupler is dead where the first place goes down its column through the row of the second
abbrev pub is_cut_at : WorkingGraph → ℕ → ℕ → Bool
is_cut_at w v u =
    let T = w.graph.shore in
    is_cut w
    (down_qubit w.graph (v / T) (v % T) (u / T))
    (along_qubit w.graph (u / T) (u % T) (v / T))

-- the first qubit of a cell that lies along its row
abbrev pub first_along : Chimera → ℕ → ℕ → ℕ
first_along graph i col = along_qubit graph i 0 col

-- the least number of a coupler across the cell in which a place goes down through a row
abbrev pub first_across : Chimera → ℕ → ℕ → ℕ
first_across graph v row =
    let cell = v / graph.shore in
    pair_number (down_qubit graph cell (v % graph.shore) row) (first_along graph row cell)

-- dead couplers part a place from an earlier one: in one cell of the diagonal there are two joins
pub record IsParted (w : WorkingGraph) (v u : ℕ) : Type 0 where
  pub down : is_cut_at w v u ≡ true
  pub across : u / w.graph.shore ≡ v / w.graph.shore → is_cut_at w u v ≡ true

-- a marked place
abbrev pub is_marked : List Bool → ℕ → Bool
is_marked marks u = slice_index_or marks u false

-- the marks of these places
abbrev pub AreMarked : List Bool → List ℕ → Type 0
AreMarked marks xs = (u : ℕ) → is_marked marks u ≡ is_in xs u

-- of the first n places, each whole, and coupled to those before
pub record AreTaken (fabric : Fabric) (chain : ℕ → List ℕ) (n : ℕ) (xs : List ℕ) : Type 0 where
  pub below : (i : ℕ) → i < length xs → slice_index_or xs i 0 < n
  pub whole : (i : ℕ) → i < length xs → is_whole fabric (chain (slice_index_or xs i 0)) ≡ true
  pub coupled : (i j : ℕ) → i < j → j < length xs
      → are_coupled fabric.joined (chain (slice_index_or xs j 0))
      (chain (slice_index_or xs i 0)) ≡ true

-- whether a place may be taken after those with marks, where they are just the places below it that
-- are taken
abbrev pub TellsFree : Fabric → (ℕ → List ℕ) → List Bool → ℕ → Bool → Type 0
TellsFree fabric chain marks place free =
    (xs : List ℕ) → AreMarked marks xs → AreTaken fabric chain place xs
    → free ≡ is_free fabric chain xs place
