use Rattle.bits_model.proofs.Common.{nat_tests, arith, to_z-of_z}
use Rattle.bits_model.proofs.Packed.{row_index_below, row_entries_at}
use Rattle.bits_model.proofs.row.Row.weight.Goals as goal

pub overflow_add-self-inside : goal.overflow_add-self-inside
overflow_add-self-inside c =
    let below = row_index_below _ _ _ c.args.index _ _ _ c.self.invariant c.self.view_is c.requires in
    omega (arith, below, c.self.told)

pub get-requires : goal.get-requires
get-requires c =
    let below = row_index_below _ _ _ c.args.index _ _ _ c.self.invariant c.self.view_is c.requires in
    omega (arith, below, c.self.invariant.weighed)

pub returns : goal.returns
returns c = grind (arith, nat_tests, to_z-of_z, row_entries_at)
