-- The model that is written: what it keeps, its energy, and how a state of it is read.
use Rattle.std.specs.Prelude.{◌≡◌, ◌≢◌, ℕ, ◌*◌, ◌≤◌, ◌<◌, ℤ, pos, ◌≤ℤ◌, neg_ℤ, unsigned_abs, Bool, true, false, ◌&&◌, ◌==◌, nat_lt, cond, IsTrue, List, [], length, map, take, count_by, All, if◌then◌else◌}
use Rattle.std.specs.List.{list_any, slice_index_or, sum_by}
use Rattle.std.specs.List.Sorted.{IsStrictlySortedBy}
use Rattle.std.specs.Ordering.{nat_cmp, bool_cmp, ordering_then, int_eq}
use Rattle.std.specs.declared.cmp.Ordering.{Ordering}
use Rattle.base.specs.Sums.{total_by, if_so}
use Rattle.base.specs.declared.costs.Cost.TheVariants.{Whole}
use Rattle.base.specs.declared.costs.Figures.{Figures}
use Rattle.bits_model.specs.declared.output.Entry.{Entry}
use Rattle.bits_model.specs.declared.output.Kind.{Kind}
use Rattle.bits_model.specs.declared.output.Kind.TheVariants.{Qubo, Qubits}
use Rattle.bits_model.specs.declared.output.Graph.{Graph}
use Rattle.bits_model.specs.declared.output.Graph.TheVariants.{Chimera, Listed}
use Rattle.base.specs.Costs.{Form}
use Rattle.form_steps.specs.Relations.{Decoding}

-- what a written model says
pub record Written : Type 0 where
  pub kind : Kind
  pub variables : ℕ
  pub figures : Figures
  pub unit : ℤ
  pub nodes : ℕ
  pub entries : List Entry
  pub chains : List (List ℕ)

-- ---- its entries

-- an entry of a node
abbrev pub is_node : Entry → Bool
is_node e = e.first == e.second

-- an entry of a pair of nodes
abbrev pub is_coupler : Entry → Bool
is_coupler e = nat_lt e.first e.second

-- nodes stand before couplers, and each of them by their numbers
abbrev pub entry_cmp : Entry → Entry → Ordering
entry_cmp a b =
    ordering_then (bool_cmp (is_coupler a) (is_coupler b))
    (ordering_then (nat_cmp a.first b.first) (nat_cmp a.second b.second))

-- the entry names nodes below n, in their order
pub record IsPlaced (n : ℕ) (e : Entry) : Type 0 where
  pub upward : e.first ≤ e.second
  pub within : e.second < n

-- some entry is that of the node i
abbrev pub has_node : List Entry → ℕ → Bool
has_node entries i = list_any (λ e. (e.first == i) && (e.second == i)) entries

-- some chain has the qubit q
abbrev pub is_chained : List (List ℕ) → ℕ → Bool
is_chained chains q = list_any (λ chain. list_any (λ p. p == q) chain) chains

-- ---- what makes it well formed

-- a model without chains: each node has an entry, and no coupler is 0
pub record IsPlain (m : Written) : Type 0 where
  pub listed : (i : ℕ) → i < m.nodes → IsTrue (has_node m.entries i)
  pub nonzero : All (λ e. is_coupler e ≡ true → e.weight ≢ pos 0) m.entries
  pub unchained : m.chains ≡ []
  pub enough : m.variables ≤ m.nodes

-- a model on the qubits of a graph: those of chains have entries, and no others
pub record IsChained (qubits : ℕ) (m : Written) : Type 0 where
  pub sized : m.nodes ≡ qubits
  pub filled : All (λ chain. chain ≢ []) m.chains
  pub listed : (q : ℕ) → has_node m.entries q ≡ is_chained m.chains q
  pub enough : m.variables ≤ length m.chains

-- how many qubits the graph has
abbrev pub qubits_of : Graph → ℕ
qubits_of (Chimera rows cols shore) = 2 * rows * cols * shore
qubits_of (Listed qubits) = qubits

-- what is asked of each kind
abbrev pub FitsKind : Kind → Written → Type 0
FitsKind (Qubits graph) m = IsChained (qubits_of graph) m
FitsKind kind m = IsPlain m

-- a well-formed model: a unit and a scale of at least 1, entries in order, none twice, of nodes
-- that it has, and what its kind asks
pub record IsWellFormed (m : Written) : Type 0 where
  pub unit : pos 1 ≤ℤ m.unit
  pub scale : pos 1 ≤ℤ m.figures.scale
  pub ordered : IsStrictlySortedBy entry_cmp m.entries
  pub placed : All (IsPlaced m.nodes) m.entries
  pub kind : FitsKind m.kind m

-- the sum of the sizes of its weights
abbrev pub weight_total : List Entry → ℕ
weight_total entries = sum_by (λ e. unsigned_abs e.weight) entries

-- its nodes, and the square of the degree of each term that is not 0
abbrev pub entry_size : Entry → ℕ
entry_size e = if int_eq e.weight (pos 0) then 0 else (if is_node e then 1 else 4)

-- ---- its energy

-- the bit of a node
abbrev pub bit_at : List Bool → ℕ → Bool
bit_at y i = slice_index_or y i false

-- a number times a spin: bit 1 is the spin +1, and bit 0 the spin -1
abbrev pub times_spin : Bool → ℤ → ℤ
times_spin bit w = cond bit w (neg_ℤ w)

-- weight times both bits, which are one for a node
abbrev pub bits_energy : List Bool → Entry → ℤ
bits_energy y e = if_so (bit_at y e.first && bit_at y e.second) e.weight

-- field times spin, or coupling times both spins
abbrev pub spins_energy : List Bool → Entry → ℤ
spins_energy y e =
    if is_node e
    then times_spin (bit_at y e.first) e.weight
    else times_spin (bit_at y e.first) (times_spin (bit_at y e.second) e.weight)

-- what an entry of this kind adds to the energy
abbrev pub entry_energy : Kind → List Bool → Entry → ℤ
entry_energy Qubo y e = bits_energy y e
entry_energy kind y e = spins_energy y e

-- the energies of its states
abbrev pub form_of : Written → Form
form_of m = record {
  bits = m.nodes;
  cost = λ y. Whole (total_by (entry_energy m.kind y) m.entries);
}

-- ---- how a state is read

-- how many qubits of the chain are 1
abbrev pub ones_in : List Bool → List ℕ → ℕ
ones_in y chain = count_by (bit_at y) chain

-- the bit that most qubits of the chain have, and on a tie that of its first qubit
abbrev pub majority : List Bool → List ℕ → Bool
majority y chain =
    if nat_lt (length chain) (2 * ones_in y chain)
    then true
    else if nat_lt (2 * ones_in y chain) (length chain)
    then false
    else bit_at y (slice_index_or chain 0 0)

-- the assignment of a state, read off the model alone
abbrev pub read_off : Kind → ℕ → List (List ℕ) → List Bool → List Bool
read_off (Qubits graph) variables chains y = map (majority y) (take variables chains)
read_off kind variables chains y = take variables y

-- the decoding of a written model
abbrev pub decoding_of : Written → Decoding
decoding_of m = record {
  source_width = m.variables;
  target_width = m.nodes;
  decoded = read_off m.kind m.variables m.chains;
}
