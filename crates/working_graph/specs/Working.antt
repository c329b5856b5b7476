-- The working graph: what is left of a Chimera graph without its dead qubits and couplers.
use Rattle.std.specs.Prelude.{ℕ, ◌==◌, Bool, false, not, ◌&&◌, List, [], nat_lt}
use Rattle.std.specs.List.{list_any}
use Rattle.chimera_graph.specs.declared.chimera.Chimera.{Chimera}
use Rattle.chimera_graph.specs.Graph.{qubits_of, place_of}
use Rattle.chimera_graph.specs.Places.{are_joined}
use Rattle.chain_map.specs.Chains.{Joins}
use Rattle.part_lists.specs.declared.parts.Part.{Part}
use Rattle.part_lists.specs.declared.parts.Part.TheVariants.{Qubit, Coupler}
use Rattle.part_lists.specs.Pairs.{is_coupler}
use Rattle.hardware.specs.Fabrics.{Fabric}

-- a graph, and its qubits and couplers that are dead
pub record WorkingGraph : Type 0 where
  pub graph : Chimera
  pub parts : List Part

-- nothing of a graph is dead
abbrev pub whole_graph : Chimera → WorkingGraph
whole_graph graph = record { graph = graph; parts = [] }

-- it is this dead qubit
abbrev pub is_qubit : ℕ → Part → Bool
is_qubit q (Qubit a) = a == q
is_qubit q (Coupler a b) = false

-- a qubit of the working graph is a qubit of the graph that is not dead
abbrev pub exists_in : WorkingGraph → ℕ → Bool
exists_in w q = nat_lt q (qubits_of w.graph) && not (list_any (is_qubit q) w.parts)

-- two qubits of the working graph are joined where the graph joins them and their coupler is not
-- dead
abbrev pub joined_in : WorkingGraph → Joins
joined_in w a b =
    are_joined (place_of w.graph a) (place_of w.graph b)
    && exists_in w a && exists_in w b && not (list_any (is_coupler a b) w.parts)

-- the qubits of the working graph and their joins
abbrev pub fabric_of : WorkingGraph → Fabric
fabric_of w = record { qubits = qubits_of w.graph; exists = exists_in w; joined = joined_in w }
