use Rattle.std.proofs.lemmas.Str.{IsUtf8-from_ascii}
use Rattle.poly_reader.proofs.NameForms.{name_ascii}
use Rattle.poly_reader.proofs.names.as_text.Goals as goal

pub from_utf8_unchecked-requires : goal.from_utf8_unchecked-requires
from_utf8_unchecked-requires c =
    IsUtf8-from_ascii c.args.name.now (name_ascii c.args.name.now c.requires)
