-- Where chains stand: the qubits that there are, the chains on them, and whether a form has a place
-- there.
use Rattle.std.specs.Prelude.{◌≡◌, ℕ, ◌<◌, ◌≤◌, ◌^◌, ◌&&◌, List, [], length, min, nat_lt}
use Rattle.bits_model.specs.declared.output.Graph.{Graph}
use Rattle.bits_model.specs.declared.output.Graph.TheVariants as graphs
use Rattle.ising_form.specs.Isings.{IsingContent}
use Rattle.chimera_graph.specs.declared.chimera.Chimera.{Chimera}
use Rattle.chimera_graph.specs.Graph.{qubits_of, place_of}
use Rattle.chimera_graph.specs.Places.{are_joined}
use Rattle.chain_map.specs.declared.faults.EmbedFault.{EmbedFault}
use Rattle.chain_map.specs.declared.faults.EmbedFault.TheVariants.{TooManyNodes}
use Rattle.chain_map.specs.Cliques.{clique_of, clique_places}
use Rattle.hardware.specs.Fabrics.{Fabric}
use Rattle.embedding_check.specs.Fabrics.{IsValidOn, IsFaultOn}
use Rattle.working_graph.specs.Places.{taken_places, working_clique}
use Rattle.working_graph.specs.Working.{fabric_of}
use Rattle.part_lists.specs.declared.parts.Part.{Part}
use Rattle.listed_graph.specs.Parts.{exists_in, joined_in}
use Rattle.listed_graph.specs.Parts as listed
use Rattle.model_pipeline.specs.declared.site.Qubits.{Qubits}
use Rattle.model_pipeline.specs.declared.site.Qubits.TheVariants as which
use Rattle.model_pipeline.specs.declared.site.ChainSource.{ChainSource}
use Rattle.model_pipeline.specs.declared.site.ChainSource.TheVariants.{Clique, Map}
use Rattle.model_pipeline.specs.declared.site.Site.{Site}

-- ---- the qubits

-- all qubits of a graph, and their joins
abbrev pub whole_fabric : Chimera → Fabric
whole_fabric graph = record {
  qubits = qubits_of graph;
  exists = λ q. nat_lt q (qubits_of graph);
  joined = λ a b. are_joined (place_of graph a) (place_of graph b);
}

-- the qubits below 2 ^ 20 that parts name, and the joins that they are
abbrev pub listed_fabric : List Part → Fabric
listed_fabric parts = record {
  qubits = min (listed.qubits_of parts) (2 ^ 20);
  exists = λ q. exists_in parts q && nat_lt q (2 ^ 20);
  joined = joined_in parts;
}

-- a Chimera graph, in the numbers that a model has of it
abbrev pub in_numbers : Chimera → Graph
in_numbers graph = graphs.Chimera graph.rows graph.cols graph.shore

-- the graph that they are qubits of
abbrev pub graph_in : Qubits → Graph
graph_in (which.All graph) = in_numbers graph
graph_in (which.Working w) = in_numbers w.graph
graph_in (which.Listed parts) = graphs.Listed (listed_fabric parts).qubits

-- which qubits there are, and which two of them are joined
abbrev pub fabric_in : Qubits → Fabric
fabric_in (which.All graph) = whole_fabric graph
fabric_in (which.Working w) = fabric_of w
fabric_in (which.Listed parts) = listed_fabric parts

-- how many nodes of a clique have a place on them; no clique stands on a graph that is given as a list
abbrev pub places_in : Qubits → ℕ
places_in (which.All graph) = clique_places graph
places_in (which.Working w) = length (taken_places w)
places_in (which.Listed parts) = 0

-- ---- the chains

-- the chains of so many nodes of a clique
abbrev pub clique_in : Qubits → ℕ → List (List ℕ)
clique_in (which.All graph) nodes = clique_of graph nodes
clique_in (which.Working w) nodes = working_clique w nodes
clique_in (which.Listed parts) nodes = []

-- the chains of so many nodes: those of the clique, or of the map
abbrev pub chains_of : Qubits → ChainSource → ℕ → List (List ℕ)
chains_of qubits Clique nodes = clique_in qubits nodes
chains_of qubits (Map map) nodes = map

-- ---- whether a form has a place

-- each node has a place, or the map is a valid embedding
abbrev pub CanStandAt : Qubits → ChainSource → IsingContent → Type 0
CanStandAt qubits Clique form = length form.fields ≤ places_in qubits
CanStandAt qubits (Map map) form = IsValidOn (fabric_in qubits) form map

-- the same, for the qubits and the chains of a site
abbrev pub CanStandBy : Site → IsingContent → Type 0
CanStandBy site form = CanStandAt site.qubits site.chain_source form

-- why it has none: there are too few places, or what is wrong with the map first
abbrev pub IsFaultAt : Qubits → ChainSource → IsingContent → EmbedFault → Type 0
IsFaultAt qubits Clique form fault =
    (places_in qubits < length form.fields)
    × (fault ≡ TooManyNodes (length form.fields) (places_in qubits))
IsFaultAt qubits (Map map) form fault = IsFaultOn (fabric_in qubits) form map fault

-- the same, for the qubits and the chains of a site
abbrev pub IsFaultBy : Site → IsingContent → EmbedFault → Type 0
IsFaultBy site form fault = IsFaultAt site.qubits site.chain_source form fault
