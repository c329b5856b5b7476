-- Quadratic forms: a constant, a weight for each node, and couplers.
use Rattle.std.specs.Prelude.{◌≢◌, ℕ, ◌+◌, ◌≤◌, ◌<◌, ◌^◌, ℤ, pos, neg_ℤ, ◌+ℤ◌, unsigned_abs, Bool, List, [], ◌++◌, length, All, if◌then◌else◌}
use Rattle.std.specs.List.{sum_by}
use Rattle.std.specs.List.Sorted.{IsStrictlySortedBy}
use Rattle.std.specs.Ordering.{int_eq}
use Rattle.base.specs.Sums.{total_by}
use Rattle.base.specs.declared.costs.Cost.TheVariants.{Whole}
use Rattle.base.specs.declared.costs.Figures.{Figures}
use Rattle.bits_model.specs.declared.output.Entry.{Entry}
use Rattle.bits_model.specs.declared.output.Kind.TheVariants.{Qubo}
use Rattle.base.specs.Costs.{Form}
use Rattle.base.specs.Figures.{figures_moved}
pub use Rattle.bits_model.specs.Entries.{node_entries}
use Rattle.bits_model.specs.Output.{Written, entry_cmp, bits_energy, weight_total, entry_size}

-- What a quadratic form says. The weights of nodes stand in a list by their numbers, 0 where a node
-- has none; couplers are kept where they are not 0.
pub record QuadContent : Type 0 where
  pub constant : ℤ
  pub diagonal : List ℤ
  pub couplers : List Entry

-- the entries of nodes, and then those of couplers
abbrev pub entries_of : QuadContent → List Entry
entries_of q = node_entries 0 q.diagonal ++ q.couplers

-- the constant, the weights of the nodes that are 1 and those of the couplers whose ends are both 1
abbrev pub quad_value : QuadContent → List Bool → ℤ
quad_value q y = q.constant +ℤ total_by (bits_energy y) (entries_of q)

-- its width is the number of nodes, and its cost the value
abbrev pub form_of : QuadContent → Form
form_of q = record { bits = length q.diagonal; cost = λ y. Whole (quad_value q y) }

-- ---- its sizes

-- The sizes of all weights and of the constant. It bounds the size of every energy.
abbrev pub quad_total : QuadContent → ℕ
quad_total q = unsigned_abs q.constant + weight_total (entries_of q)

-- the nodes, and the squares of the degrees of all terms: a weight that is not 0 counts 1 at a node
-- and 4 at a coupler
abbrev pub quad_size : QuadContent → ℕ
quad_size q =
    length q.diagonal + (if int_eq q.constant (pos 0) then 0 else 1)
    + sum_by entry_size (entries_of q)

-- ---- what it keeps

-- A coupler of two of the first n nodes, that is not 0. The lesser node stands first.
pub record IsCoupler (n : ℕ) (e : Entry) : Type 0 where
  pub upward : e.first < e.second
  pub within : e.second < n
  pub nonzero : e.weight ≢ pos 0

-- couplers of its nodes, in order and none twice
pub record IsQuad (q : QuadContent) : Type 0 where
  -- by their first nodes, and then by their second ones
  pub ordered : IsStrictlySortedBy entry_cmp q.couplers
  -- each is of two nodes of the form
  pub couplers : All (IsCoupler (length q.diagonal)) q.couplers
  -- node numbers fit 32 bits
  pub narrow : length q.diagonal < 2 ^ 32
  -- all energies are far below what 128 bits hold, so that later steps can scale them
  pub small : quad_total q ≤ 2 ^ 124

-- ---- the model that is written for it

-- The model of a form, in a unit: entries carry no constant, and so it is taken off the offset and
-- the threshold. With the constant 5 and the offset 3 the model says the offset -2: unit times its
-- energy is scale times the cost, and -2.
abbrev pub written_of : QuadContent → ℕ → Figures → ℤ → Written
written_of q variables figures unit = record {
  kind = Qubo;
  variables = variables;
  figures = figures_moved figures (neg_ℤ q.constant);
  unit = unit;
  nodes = length q.diagonal;
  entries = entries_of q;
  chains = [];
}
