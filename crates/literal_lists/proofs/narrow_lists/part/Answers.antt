use Rattle.literal_lists.proofs.Common.{length, get_or, ap, ◌∙◌, sym, arith, Some, map, slice_range, part_lies, literal_of}
use Rattle.literal_lists.proofs.CodedParts.{literal_parts-at}
use Rattle.literal_lists.proofs.narrow_lists.part.Goals as goal

pub lent_part-requires-clause-ordered : goal.lent_part-requires-clause-ordered
lent_part-requires-clause-ordered c =
    let lies = part_lies c.args.ends.now (length c.args.codes.now) c.args.i c.requires.ends c.requires.within in
    omega (arith, c.start_of-start.ensures, lies.0)

pub lent_part-requires-clause-within : goal.lent_part-requires-clause-within
lent_part-requires-clause-within c =
    let lies = part_lies c.args.ends.now (length c.args.codes.now) c.args.i c.requires.ends c.requires.within in
    omega (arith, lies.1)

pub returns : goal.returns
returns c =
    let codes = c.args.codes.now in
    let ends = c.args.ends.now in
    let here = c.iter.ensures.rest ∙ c.lent_part.ensures
    ∙ ap (λ s. slice_range codes s (get_or ends c.args.i 0)) c.start_of-start.ensures in
    literal_parts-at codes ends c.args.i c.requires.within
    ∙ ap (λ ls. Some (map literal_of ls)) (sym here)
