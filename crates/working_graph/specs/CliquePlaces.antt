-- Parents and places on the chains of a clique, in closed form.
--
-- A chain is a path from its first qubit on. The chains of two nodes meet where the later one goes
-- down its column through the row of the earlier one. In one cell of the diagonal they meet twice.
use Rattle.std.specs.Prelude.{◌≡◌, ℕ, ◌-◌, ◌<◌, ◌==◌, List, length, take, if◌then◌else◌}
use Rattle.chimera_graph.specs.declared.chimera.Chimera.{Chimera}
use Rattle.chimera_graph.specs.Graph.{place_of}
use Rattle.chimera_graph.specs.Places.{are_joined}
use Rattle.bits_model.specs.declared.output.Entry.{Entry}
use Rattle.chain_map.specs.declared.spot.Spot.{Spot}
use Rattle.chain_map.specs.Chains.{Joins}
use Rattle.chain_map.specs.declared.faults.EmbedFault.{EmbedFault}
use Rattle.chain_map.specs.declared.faults.EmbedFault.TheVariants.{TooManyNodes}
use Rattle.chain_map.specs.Cliques.{down_qubit, along_qubit, spot_of}

-- the parents on a path: all qubits but the last
abbrev pub but_last : List ℕ → List ℕ
but_last chain = take (length chain - 1) chain

-- the least joined pair of the chains of an earlier and a later node
abbrev pub place_of_spots : Chimera → Spot → Spot → ℕ × ℕ
place_of_spots graph s t =
    if s.cell == t.cell
    then (down_qubit graph s.cell s.at s.cell, along_qubit graph t.cell t.at t.cell)
    else (down_qubit graph t.cell t.at s.cell, along_qubit graph s.cell s.at t.cell)

-- the place of a coupling
abbrev pub clique_place : Chimera → Entry → ℕ × ℕ
clique_place graph c = place_of_spots graph (spot_of graph c.first) (spot_of graph c.second)

-- which two qubits of a graph are joined
abbrev pub joined_on : Chimera → Joins
joined_on graph = λ a b. are_joined (place_of graph a) (place_of graph b)

-- there are more nodes than places for them, and the fault says so: 5 nodes for 4 places
abbrev pub IsTooMany : (nodes places : ℕ) → EmbedFault → Type 0
IsTooMany nodes places fault = (places < nodes) × (fault ≡ TooManyNodes nodes places)
