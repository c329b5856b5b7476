-- The laws of written models, as statements.
use Rattle.std.specs.Prelude.{◌≡◌, ◌<◌, ◌^◌, List}
use Rattle.std.specs.List.{flat_map}
use Rattle.bits_model.specs.declared.output.Entry.{Entry}
use Rattle.bits_model.specs.Entries.{rows_of}
use Rattle.bits_model.specs.PairNumbers.{numbered, pair_number}

-- the rows of entries, one after another, are the entries
abbrev pub RowsMakeUp : Type 0
RowsMakeUp = (es : List Entry) → flat_map (λ row. row) (rows_of es) ≡ es

-- a pair is that of its number
abbrev pub PairsHaveNumbers : Type 0
PairsHaveNumbers = (e : Entry) → e.second < 2 ^ 32 → numbered (pair_number e) e.weight ≡ e
