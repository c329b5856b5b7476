use Rattle.std.proofs.Common.{length, get_or, ap, ◌∙◌, sym, arith, Some}
use Rattle.std.specs.List.{slice_range}
use Rattle.base.proofs.FlatParts.{part_lies, parts-at}
use Rattle.base.proofs.lists.part.Goals as goal

pub lent_part-requires-clause-ordered : goal.lent_part-requires-clause-ordered
lent_part-requires-clause-ordered g c =
    let lies = part_lies c.args.ends.now (length c.args.items.now) c.args.i c.requires.ends c.requires.within in
    omega (arith, c.start_of-start.ensures, lies.0)

pub lent_part-requires-clause-within : goal.lent_part-requires-clause-within
lent_part-requires-clause-within g c =
    let lies = part_lies c.args.ends.now (length c.args.items.now) c.args.i c.requires.ends c.requires.within in
    omega (arith, lies.1)

pub returns : goal.returns
returns g c =
    let items = c.args.items.now in
    let ends = c.args.ends.now in
    let here = c.lent_part.ensures
    ∙ ap (λ s. slice_range items s (get_or ends c.args.i 0)) c.start_of-start.ensures in
    parts-at items ends c.args.i c.requires.within ∙ ap (λ ls. Some ls) (sym here)
