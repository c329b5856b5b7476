-- The law of checks, as a statement.
use Rattle.std.specs.Prelude.{◌≡◌, ℕ, List}
use Rattle.ising_form.specs.Isings.{IsingContent}
use Rattle.chain_map.specs.Chains.{Joins}
use Rattle.embedding_check.specs.Embeddings.{Embedding}
use Rattle.embedding_check.specs.Checked.{IsChecked}

-- a form, a map and a graph have at most one embedding that a check gives
abbrev pub ChecksGiveOneEmbedding : Type 0
ChecksGiveOneEmbedding =
    (joined : Joins) (n : ℕ) (f : IsingContent) (map : List (List ℕ)) (e e' : Embedding)
    → IsChecked joined n f map e → IsChecked joined n f map e' → e ≡ e'
