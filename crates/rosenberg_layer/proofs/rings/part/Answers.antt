use Rattle.rosenberg_layer.proofs.Common.{length, get_or, ap, ◌∙◌, sym, arith, slice_range, part_lies}
use Rattle.rosenberg_layer.proofs.FlatSets.{part-at}
use Rattle.rosenberg_layer.proofs.rings.part.Goals as goal

pub lent_part-requires-clause-ordered : goal.lent_part-requires-clause-ordered
lent_part-requires-clause-ordered c =
    let lies = part_lies c.args.ends.now (length c.args.codes.now) c.args.i c.requires.ends c.requires.within in
    omega (arith, c.start_of-start.ensures, lies.0)

pub lent_part-requires-clause-within : goal.lent_part-requires-clause-within
lent_part-requires-clause-within c =
    let lies = part_lies c.args.ends.now (length c.args.codes.now) c.args.i c.requires.ends c.requires.within in
    omega (arith, lies.1)

pub returns : goal.returns
returns c =
    let ends = c.args.ends.now in
    c.lent_part.ensures
    ∙ ap (λ s. slice_range c.args.codes.now s (get_or ends c.args.i 0)) c.start_of-start.ensures
    ∙ sym (part-at c.args.codes.now ends c.args.i c.requires.within)
