use Rattle.std.proofs.Common.{◌≡◌, length, ap, sym, arith, rules, Some, []}
use Rattle.std.specs.List.{slice_get}
use Rattle.std.proofs.lemmas.Option.{get_or_from_slice_get}
use Rattle.base.proofs.FlatParts.{length-parts}
use Rattle.base.proofs.lists.Lists.list.Goals as goal

pub part-requires-clause-within : goal.part-requires-clause-within
part-requires-clause-within g c =
    let items = c.self.inside.items.items in
    let ends = c.self.inside.ends.items in
    omega (
      arith,
      c.requires,
      ap length c.self.view_is,
      length-parts items 0 ends,
      ap length c.deref-2.ensures.value,
    )

pub returns-clause-listed : goal.returns-clause-listed
returns-clause-listed g c =
    let at : slice_get c.args.self.now c.args.i ≡ Some c.part.result.now = search rules in
    sym (get_or_from_slice_get c.args.self.now c.args.i _ [] at)
