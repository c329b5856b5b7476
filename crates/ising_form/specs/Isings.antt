-- Ising forms: a constant, a field for each node, and couplings, over spins.
use Rattle.std.specs.Prelude.{ℕ, ◌+◌, ◌≤◌, ◌<◌, ◌^◌, ℤ, pos, ◌+ℤ◌, unsigned_abs, Bool, List, ◌++◌, length, All, if◌then◌else◌}
use Rattle.std.specs.List.{sum_by}
use Rattle.std.specs.List.Sorted.{IsStrictlySortedBy}
use Rattle.std.specs.Ordering.{int_eq}
use Rattle.base.specs.Sums.{total_by}
use Rattle.base.specs.declared.costs.Cost.TheVariants.{Whole}
use Rattle.bits_model.specs.declared.output.Entry.{Entry}
use Rattle.base.specs.Costs.{Form}
use Rattle.bits_model.specs.Output.{entry_cmp, spins_energy, weight_total, entry_size}
use Rattle.quad_form.specs.Quads.{node_entries, IsCoupler}

-- What an Ising form says. Fields stand in a list by the numbers of nodes, 0 where a node has none.
pub record IsingContent : Type 0 where
  pub constant : ℤ
  pub fields : List ℤ
  pub couplings : List Entry

-- the entries of nodes, and then those of couplings
abbrev pub entries_of : IsingContent → List Entry
entries_of f = node_entries 0 f.fields ++ f.couplings

-- The constant, each field times its spin, and each coupling times both spins. Bit 1 is the spin
-- +1, and bit 0 the spin -1: a coupling of 3 costs 3 where both bits agree, and -3 where they
-- don't.
abbrev pub ising_value : IsingContent → List Bool → ℤ
ising_value f y = f.constant +ℤ total_by (spins_energy y) (entries_of f)

-- its width is the number of nodes, and its cost the value
abbrev pub form_of : IsingContent → Form
form_of f = record { bits = length f.fields; cost = λ y. Whole (ising_value f y) }

-- ---- its sizes

-- The sizes of all weights and of the constant. It bounds the size of every energy.
abbrev pub ising_total : IsingContent → ℕ
ising_total f = unsigned_abs f.constant + weight_total (entries_of f)

-- the nodes, and the squares of the degrees of all terms
abbrev pub ising_size : IsingContent → ℕ
ising_size f =
    length f.fields + (if int_eq f.constant (pos 0) then 0 else 1)
    + sum_by entry_size (entries_of f)

-- ---- what it keeps

-- couplings of its nodes, in order, none twice and none 0
pub record IsIsing (f : IsingContent) : Type 0 where
  -- by their first nodes, and then by their second ones
  pub ordered : IsStrictlySortedBy entry_cmp f.couplings
  -- each is of two nodes, the lesser one first
  pub couplings : All (IsCoupler (length f.fields)) f.couplings
  -- node numbers fit 32 bits
  pub narrow : length f.fields < 2 ^ 32
  -- energies are far below what 128 bits hold
  pub small : ising_total f ≤ 2 ^ 124
