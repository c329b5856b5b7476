use Rattle.literal_lists.proofs.Common.{◌∙◌, sym}
use Rattle.literal_lists.proofs.CodeOrder.{codes_compared}
use Rattle.literal_lists.proofs.literals.compared_codes.Goals as goal

pub returns : goal.returns
returns c = c.cmp.ensures ∙ sym (codes_compared c.args.left.now c.args.right.now)
