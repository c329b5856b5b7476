use Rattle.std.proofs.Common.{arith, ◌∙◌, ◌∷◌, [], length-append}
use Rattle.whole_text.proofs.Strides.{strides_wide, wide_marks-push}
use Rattle.whole_text.proofs.packed.push_wide.Goals as goal

pub returns-in-Ok-clause-pushed : goal.returns-in-Ok-clause-pushed
returns-in-Ok-clause-pushed c =
    rw (c.in-Ok.ensures.items, c.in_ok-push.ensures.items) (strides_wide c.args.marks.now.items c.args.wide.now.items c.args.stride c.requires)

pub returns-in-Ok-clause-every : goal.returns-in-Ok-clause-every
returns-in-Ok-clause-every c =
    rw (c.in-Ok.ensures.items, c.in_ok-push.ensures.items) (wide_marks-push c.args.marks.now.items 0 ∙ omega (arith, c.requires, length-append c.args.wide.now.items (c.args.stride ∷ [])))
