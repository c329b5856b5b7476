-- The link of the layer, which is read as that of the layer of chains.
use Rattle.form_steps.specs.Relations.{Decoding}
use Rattle.embedding_check.specs.Embeddings.{Embedding}
use Rattle.chain_layer.specs.Image as images
use Rattle.chain_layer.specs.declared.link.ChainLink.{ChainLink}
use Rattle.cut_chains.specs.declared.link.CutLink.{CutLink}

-- The same chains and qubits as a link of the layer of chains. A link says which qubits a node
-- stands on, and how many qubits a state has; strengths of ties play no part in decoding.
abbrev pub as_chains : CutLink → ChainLink
as_chains link = record { chains = link.chains; qubits = link.qubits }

-- The bit that most qubits of each chain have, and on a tie that of its first qubit. A chain of the
-- qubits 4, 7, 9 whose bits are 0, 1, 1 decodes to 1; one of two qubits with bits 0, 1 to 0.
abbrev pub decoding : CutLink → Decoding
decoding link = images.decoding (as_chains link)

-- A link between an embedding and its image. It has the embedding's own chains and number of
-- qubits, and the embedding is one.
abbrev pub Fits : CutLink → Embedding → Type 0
Fits link e = images.Fits (as_chains link) e

-- No chain is empty, and all its qubits exist. So each chain has a majority, and each look-up of a
-- bit finds one.
abbrev pub IsSound : CutLink → Type 0
IsSound link = images.IsSound (as_chains link)
