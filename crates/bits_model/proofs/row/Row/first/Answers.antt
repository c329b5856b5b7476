use Rattle.bits_model.proofs.Common.{ap, Entry}
use Rattle.bits_model.proofs.Packed.{row_entries_at}
use Rattle.bits_model.proofs.row.Row.first.Goals as goal

pub returns : goal.returns
returns c = rw (← c.self.view_is)
    (λ k d h. ap (λ (e : Entry). e.first) (row_entries_at _ _ _ k _ _ d c.self.invariant h))
