use Rattle.bits_model.proofs.Common.{ap, arith, Entry}
use Rattle.bits_model.proofs.Packed.{row_index_below, row_entries_at}
use Rattle.bits_model.proofs.row.Row.second.Goals as goal

pub overflow_add-result : goal.overflow_add-result
overflow_add-result c =
    let below = row_index_below _ _ _ c.args.index _ _ _ c.self.invariant c.self.view_is c.requires in
    omega (arith, below, c.self.told)

pub offset_bounds-self-inside-self-inside : goal.offset_bounds-self-inside-self-inside
offset_bounds-self-inside-self-inside c =
    let below = row_index_below _ _ _ c.args.index _ _ _ c.self.invariant c.self.view_is c.requires in
    omega (arith, below, c.self.told)

pub bounds-self-inside-self-inside : goal.bounds-self-inside-self-inside
bounds-self-inside-self-inside c =
    row_index_below _ _ _ c.args.index _ _ _ c.self.invariant c.self.view_is c.requires

pub returns : goal.returns
returns c = rw (← c.self.view_is)
    (λ d. ap (λ (e : Entry). e.second) (row_entries_at _ _ _ c.args.index _ _ d c.self.invariant (rw (← c.self.view_is) at c.requires)))
