-- The models that are written for Ising forms.
use Rattle.std.specs.Prelude.{◌≡◌, ◌≢◌, ℕ, ◌≤◌, ◌<◌, ℤ, pos, neg_ℤ, Bool, false, List, [], ◌++◌, length, All}
use Rattle.std.specs.List.{filter, slice_index_or}
use Rattle.base.specs.declared.costs.Figures.{Figures}
use Rattle.bits_model.specs.declared.output.Entry.{Entry}
use Rattle.bits_model.specs.declared.output.Kind.{Kind}
use Rattle.bits_model.specs.declared.output.Kind.TheVariants.{Qubo, Ising, Qubits}
use Rattle.base.specs.Figures.{figures_moved}
use Rattle.bits_model.specs.Output.{Written, is_chained, qubits_of}
use Rattle.quad_form.specs.Quads.{node_entries}
use Rattle.ising_form.specs.Isings.{IsingContent, entries_of}

-- the nodes are the qubits of a graph, and what is not on a chain has no field
pub record IsOnChains (qubits : ℕ) (chains : List (List ℕ)) (variables : ℕ) (f : IsingContent)
    : Type 0 where
  -- each qubit of the graph is a node, also those that nothing stands on
  pub sized : length f.fields ≡ qubits
  -- all chains are on qubits of the graph
  pub placed : All (λ chain. All (λ q. q < qubits) chain) chains
  pub filled : All (λ chain. chain ≢ []) chains
  -- each of the source's own variables has a chain
  pub enough : variables ≤ length chains
  -- what is left out of the text has no field, so nothing is lost
  pub unchained : (q : ℕ) → is_chained chains q ≡ false → slice_index_or f.fields q (pos 0) ≡ pos 0

-- a form for which a model of this kind can be written: over spins, without chains or on those of a
-- graph
abbrev pub FitsOutput : Kind → List (List ℕ) → ℕ → IsingContent → Type 0
FitsOutput Qubo chains variables f = ⊥
FitsOutput Ising chains variables f = (chains ≡ []) × (variables ≤ length f.fields)
FitsOutput (Qubits graph) chains variables f =
    IsOnChains (qubits_of graph) chains variables f

-- the mark of the node of an entry
abbrev pub is_marked : List Bool → Entry → Bool
is_marked marks e = slice_index_or marks e.first false

-- the entry is that of a qubit on a chain
abbrev pub is_on_chain : List (List ℕ) → Entry → Bool
is_on_chain chains e = is_chained chains e.first

-- on a graph each qubit of a chain is one of so many nodes
abbrev pub AreNodes : Kind → List (List ℕ) → ℕ → Type 0
AreNodes Qubo chains n = Unit {0}
AreNodes Ising chains n = Unit {0}
AreNodes (Qubits graph) chains n = All (λ chain. All (λ q. q < n) chain) chains

-- The entries of nodes, on a graph those of chained qubits alone. A qubit without a chain is not
-- written.
abbrev pub written_nodes : Kind → List (List ℕ) → List ℤ → List Entry
written_nodes Qubo chains fields = node_entries 0 fields
written_nodes Ising chains fields = node_entries 0 fields
written_nodes (Qubits graph) chains fields =
    filter (is_on_chain chains) (node_entries 0 fields)

-- the entries of nodes, on a graph those of chained qubits alone, and then those of couplers
abbrev pub written_entries : Kind → List (List ℕ) → IsingContent → List Entry
written_entries (Qubits graph) chains f =
    filter (is_on_chain chains) (node_entries 0 f.fields) ++ f.couplings
written_entries kind chains f = entries_of f

-- the model of a form, in a unit: entries carry no constant, and so it is taken off the offset and
-- the threshold
abbrev pub written_of : IsingContent → ℕ → Figures → ℤ → Kind → List (List ℕ) → Written
written_of f variables figures unit kind chains = record {
  kind = kind;
  variables = variables;
  figures = figures_moved figures (neg_ℤ f.constant);
  unit = unit;
  nodes = length f.fields;
  entries = written_entries kind chains f;
  chains = chains;
}
