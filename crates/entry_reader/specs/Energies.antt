-- What the text of a model costs when it is read.
use Rattle.std.specs.Prelude.{◌≡◌, Ok}
use Rattle.bits_model.specs.Output as output
use Rattle.bits_model.specs.Output.{Written}
use Rattle.form_steps.specs.Stated.{HasSameCosts}
use Rattle.model_text.specs.Rows.{model_text}
use Rattle.entry_reader.specs.Entries.{Listing, reading}
use Rattle.entry_reader.specs.Again.{IsReadable, layout_of}
use Rattle.entry_reader.specs.Cost.{form_of}

-- the text of a model is read as a source of its nodes, whose costs are its energies
abbrev pub TextsKeepEnergies : Type 0
TextsKeepEnergies = (m : Written) → IsReadable m
    → (s : Listing) × (reading (layout_of m.kind) (model_text m) ≡ Ok s)
    × HasSameCosts (form_of (layout_of m.kind) s) (output.form_of m)
