-- Valid maps and first faults on what a contract sees of a graph.
use Rattle.std.specs.Prelude.{ℕ, List}
use Rattle.ising_form.specs.Isings.{IsingContent}
use Rattle.chain_map.specs.Valid.{IsValid}
use Rattle.chain_map.specs.declared.faults.EmbedFault.{EmbedFault}
use Rattle.hardware.specs.Fabrics.{Fabric}
use Rattle.embedding_check.specs.Faults.{IsFault}

-- a valid embedding in the graph, of qubits that exist
abbrev pub IsValidOn : Fabric → IsingContent → List (List ℕ) → Type 0
IsValidOn fabric f chains = IsValid fabric.joined fabric.exists f chains

-- the first fault of a map on the graph
abbrev pub IsFaultOn : Fabric → IsingContent → List (List ℕ) → EmbedFault → Type 0
IsFaultOn fabric f map fault = IsFault fabric.joined fabric.exists f map fault
