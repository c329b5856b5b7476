-- Chains for a clique on a Chimera graph: each two of them meet in a cell.
--
-- The chain of a node goes down a column of cells to the diagonal, and from there along the row: the
-- triangle of Choi 2011, Minor-embedding in adiabatic quantum computation II.
use Rattle.std.specs.Prelude.{◌≡◌, ℕ, ◌+◌, ◌-◌, ◌*◌, ◌/◌, ◌%◌, List, ◌++◌, length, map, min, nat_lt}
use Rattle.std.specs.List.{range_with_len}
use Rattle.chimera_graph.specs.declared.chimera.Chimera.{Chimera}
use Rattle.chimera_graph.specs.Graph.{qubits_of, index_of, place_of}
use Rattle.chimera_graph.specs.Places.{are_joined}
use Rattle.ising_form.specs.Isings.{IsingContent, IsIsing}
use Rattle.chain_map.specs.declared.spot.Spot.{Spot}
use Rattle.chain_map.specs.Valid.{IsValid}

-- how many cells the diagonal has
abbrev pub diagonal_of : Chimera → ℕ
diagonal_of graph = min graph.rows graph.cols

-- how many nodes there are places for
abbrev pub clique_places : Chimera → ℕ
clique_places graph = graph.shore * diagonal_of graph

-- the cell of the diagonal of a node, and where on a side its qubits are
abbrev pub spot_of : Chimera → ℕ → Spot
spot_of graph node = record { cell = node / graph.shore; at = node % graph.shore }

-- the qubit on side 0 in the column of the i-th cell of the diagonal
abbrev pub down_qubit : Chimera → ℕ → ℕ → ℕ → ℕ
down_qubit graph i k row = index_of graph (record { row = row; col = i; side = 0; at = k })

-- the qubit on side 1 in its row
abbrev pub along_qubit : Chimera → ℕ → ℕ → ℕ → ℕ
along_qubit graph i k col = index_of graph (record { row = i; col = col; side = 1; at = k })

-- down the column to the diagonal, and on along the row
abbrev pub path_of : Chimera → ℕ → ℕ → List ℕ
path_of graph i k =
    map (down_qubit graph i k) (range_with_len 0 (i + 1))
    ++ map (along_qubit graph i k) (range_with_len i (diagonal_of graph - i))

-- the chain of a node, by its cell of the diagonal and where it is on a side
abbrev pub clique_chain : Chimera → ℕ → List ℕ
clique_chain graph node = path_of graph (node / graph.shore) (node % graph.shore)

-- the chains of so many nodes
abbrev pub clique_of : Chimera → ℕ → List (List ℕ)
clique_of graph nodes = map (clique_chain graph) (range_with_len 0 nodes)

-- it is valid for every Ising form of so many nodes on this graph
abbrev pub IsForClique : Chimera → ℕ → List (List ℕ) → Type 0
IsForClique graph nodes map =
    (f : IsingContent) → IsIsing f → length f.fields ≡ nodes
    → IsValid (λ a b. are_joined (place_of graph a) (place_of graph b))
    (λ q. nat_lt q (qubits_of graph)) f map
