use Rattle.literal_lists.proofs.Common.{length, map, ap, arith, length-map, parts, length-parts, literal_of}
use Rattle.literal_lists.proofs.narrow_lists.NarrowLists.at.Goals as goal

pub part-requires-clause-within : goal.part-requires-clause-within
part-requires-clause-within c =
    let codes = c.self.inside.codes.items in
    let ends = c.self.inside.ends.items in
    omega (
      arith,
      c.requires,
      ap length c.self.view_is,
      length-map (parts codes 0 ends) (map literal_of),
      length-parts codes 0 ends,
      ap length c.deref-2.ensures.value,
    )
