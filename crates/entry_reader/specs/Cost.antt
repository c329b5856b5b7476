-- What a text of entries costs, before any normal form. The entries of an Ising text have its energy:
-- bit 1 is the spin +1, and bit 0 the spin -1.
use Rattle.std.specs.Prelude.{◌≡◌, ℤ, Bool, ◌&&◌, ◌==◌, List, if◌then◌else◌}
use Rattle.base.specs.Sums.{total_by, if_so}
use Rattle.base.specs.declared.costs.Cost.{Cost}
use Rattle.base.specs.declared.costs.Cost.TheVariants.{Whole}
use Rattle.base.specs.Costs.{Form}
use Rattle.bits_model.specs.Output.{bit_at, times_spin}
use Rattle.problem_form.specs.Problems.{problem_cost}
use Rattle.problem_form.specs.NormalForm.{normal_form}
use Rattle.entry_reader.specs.declared.layout.Layout.{Layout}
use Rattle.entry_reader.specs.declared.layout.Layout.TheVariants.{Qubo, Ising}
use Rattle.entry_reader.specs.declared.layout.Listed.{Listed}
use Rattle.entry_reader.specs.Entries.{Listing}
use Rattle.entry_reader.specs.Problems.{problem_of}

-- of a QUBO the weight times both bits, which are one for a node entry; of an Ising text field times
-- spin, or coupling times both spins
abbrev pub entry_cost : Layout → List Bool → Listed → ℤ
entry_cost Qubo x e = if_so (bit_at x e.first && bit_at x e.second) e.weight
entry_cost Ising x e =
    if e.first == e.second
    then times_spin (bit_at x e.first) e.weight
    else times_spin (bit_at x e.first) (times_spin (bit_at x e.second) e.weight)

-- the sum over the entries
abbrev pub listing_cost : Layout → Listing → List Bool → Cost
listing_cost layout s x = Whole (total_by (entry_cost layout x) s.entries)

-- the text as a form: its bits and its cost
abbrev pub form_of : Layout → Listing → Form
form_of layout s = record { bits = s.nodes; cost = listing_cost layout s }

-- the problem that is read costs what its text costs, under every assignment
abbrev pub ReadingKeepsCosts : Type 0
ReadingKeepsCosts = (layout : Layout) (s : Listing) (x : List Bool)
    → problem_cost (normal_form (problem_of layout s)) x ≡ listing_cost layout s x
