-- What a model on the qubits of a graph asks of an image.
use Rattle.std.specs.Prelude.{◌≡◌, ℕ, ◌≤◌, true, Bool, List, length, take, All}
use Rattle.bits_model.specs.declared.output.Graph.{Graph}
use Rattle.bits_model.specs.declared.output.Kind.TheVariants.{Qubits}
use Rattle.bits_model.specs.Output.{qubits_of, read_off}
use Rattle.ising_form.specs.Isings.{IsingContent}
use Rattle.ising_form.specs.Outputs.{FitsOutput}
use Rattle.chain_map.specs.Chains.{Joins}
use Rattle.embedding_check.specs.Embeddings.{Embedding, IsEmbedding}
use Rattle.embedding_check.specs.Checked.{IsChecked}
use Rattle.chain_layer.specs.declared.link.ChainLink.{ChainLink}
use Rattle.chain_layer.specs.Image.{image, decoding}

-- A model of the image can be written on the chains of its source, on a graph with as many qubits.
-- The source's own variables are the first `variables` of the chains.
abbrev pub ImageFitsOutput : Type 0
ImageFitsOutput = (e : Embedding) (graph : Graph) (variables : ℕ) → IsEmbedding e
    → e.qubits ≡ qubits_of graph → variables ≤ length e.chains
    → FitsOutput (Qubits graph) e.chains variables (image e)

-- Where a check gave the parents and places, each coupling of the image is on joined qubits. So
-- each tie and each placed coupling stands on an edge of the graph, and the model can be loaded as
-- it is. `joined` is asked to be symmetric, since a tie is written with its lesser qubit first.
abbrev pub ImageIsJoined : Type 0
ImageIsJoined = (joined : Joins) (n : ℕ) (f : IsingContent) (map : List (List ℕ)) (e : Embedding)
    → ((a b : ℕ) → joined a b ≡ joined b a) → IsChecked joined n f map e
    → All (λ c. joined c.first c.second ≡ true) (image e).couplings

-- What is read off such a model are the first bits of what the link decodes. The other chains stand
-- for nodes that the translation added, and are left out.
abbrev pub ReadOffTheChains : Type 0
ReadOffTheChains = (link : ChainLink) (graph : Graph) (variables : ℕ) (y : List Bool)
    → read_off (Qubits graph) variables link.chains y
    ≡ take variables ((decoding link).decoded y)
