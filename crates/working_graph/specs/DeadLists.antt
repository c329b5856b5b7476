-- The text of a dead list: each line with words names a dead qubit or a dead coupler.
use Rattle.std.specs.Prelude.{ℕ, List, Result, Ok, nat_lt}
use Rattle.whole_text.specs.declared.faults.TextFault.{TextFault}
use Rattle.whole_text.specs.Steps.{◌>>=◌}
use Rattle.chimera_graph.specs.declared.chimera.Chimera.{Chimera}
use Rattle.chimera_graph.specs.Graph.{qubits_of, place_of}
use Rattle.chimera_graph.specs.Places.{are_joined}
use Rattle.part_lists.specs.declared.parts.Part.{Part}
use Rattle.part_lists.specs.Lists as lists
use Rattle.working_graph.specs.Working.{WorkingGraph}

-- the parts of the graph that a text names as dead, or its first fault
abbrev pub dead_parts : Chimera → List ℕ → Result (List Part) TextFault
dead_parts graph text =
    lists.listed_parts (λ q. nat_lt q (qubits_of graph))
    (λ a b. are_joined (place_of graph a) (place_of graph b)) text

-- a part of the graph
abbrev pub IsPartOf : Chimera → Part → Type 0
IsPartOf graph part =
    lists.IsPartOf (λ q. nat_lt q (qubits_of graph))
    (λ a b. are_joined (place_of graph a) (place_of graph b)) part

-- the working graph that a text leaves, or the text's first fault
abbrev pub working_of : Chimera → List ℕ → Result WorkingGraph TextFault
working_of graph text =
    dead_parts graph text >>= λ parts. Ok (record { graph = graph; parts = parts })
