-- Small Ising forms.
use Rattle.std.specs.Prelude.{ℕ, List, ◌≤◌, ◌^◌, unsigned_abs, length, All}
use Rattle.std.specs.List.Sorted.{IsStrictlySortedBy}
use Rattle.bits_model.specs.declared.output.Entry.{Entry}
use Rattle.bits_model.specs.Output.{entry_cmp}
use Rattle.quad_form.specs.Quads.{IsCoupler}
use Rattle.ising_form.specs.Isings.{IsingContent, ising_size, ising_total}

-- small weights for a few pairs of nodes, in order
pub record AreSmallCouplings (nodes : ℕ) (entries : List Entry) : Type 0 where
  pub ordered : IsStrictlySortedBy entry_cmp entries
  pub couplers : All (IsCoupler nodes) entries
  pub small : All (λ e. unsigned_abs e.weight ≤ 2 ^ 20) entries
  pub few : length entries ≤ 100

-- a form with few weights, all of them small
pub record IsSmall (f : IsingContent) : Type 0 where
  pub total : ising_total f ≤ 2 ^ 30
  pub size : ising_size f ≤ 2 ^ 20
