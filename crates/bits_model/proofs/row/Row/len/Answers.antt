use Rattle.std.proofs.Common.{length, sym, ap, ◌∙◌}
use Rattle.bits_model.proofs.Packed.{length-row_entries}
use Rattle.bits_model.proofs.row.Row.len.Goals as goal

pub returns : goal.returns
returns c = sym (length-row_entries _ _ _ _ _ c.self.invariant) ∙ ap length c.self.view_is
