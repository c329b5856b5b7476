-- What the text of a model says when it is read.
use Rattle.std.specs.Prelude.{◌≡◌, ◌<◌, ◌≤◌, ◌^◌, unsigned_abs, length, map, All, Ok}
use Rattle.bits_model.specs.declared.output.Entry.{Entry}
use Rattle.bits_model.specs.declared.output.Kind.{Kind}
use Rattle.bits_model.specs.declared.output.Kind.TheVariants as kinds
use Rattle.bits_model.specs.Output.{Written, IsWellFormed}
use Rattle.model_text.specs.Rows.{FitsFields, model_text}
use Rattle.entry_reader.specs.declared.layout.Layout.{Layout}
use Rattle.entry_reader.specs.declared.layout.Layout.TheVariants.{Qubo, Ising}
use Rattle.entry_reader.specs.declared.layout.Listed.{Listed}
use Rattle.entry_reader.specs.Entries.{Listing, reading}

-- the layout of a model's text
abbrev pub layout_of : Kind → Layout
layout_of kinds.Qubo = Qubo
layout_of kinds.Ising = Ising
layout_of (kinds.Qubits graph) = Ising

-- an entry of a model, as a text lists it
abbrev pub listed_of : Entry → Listed
listed_of e = record { first = e.first; second = e.second; weight = e.weight }

-- what the text of a model says: its nodes and its entries, in their order
abbrev pub told_by : Written → Listing
told_by m = record { nodes = m.nodes; entries = map listed_of m.entries }

-- a model whose text can be read: its weights are below 2 ^ 64 in size, and its text is short
pub record IsReadable (m : Written) : Type 0 where
  pub formed : IsWellFormed m
  pub fits : FitsFields m
  pub weights : All (λ e. unsigned_abs e.weight < 2 ^ 64) m.entries
  pub short : length (model_text m) ≤ 2 ^ 24

-- what is written is read again
abbrev pub TextsAreReadAgain : Type 0
TextsAreReadAgain =
    (m : Written) → IsReadable m → reading (layout_of m.kind) (model_text m) ≡ Ok (told_by m)
