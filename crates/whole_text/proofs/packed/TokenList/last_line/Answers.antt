use Rattle.whole_text.proofs.Common.{sym, ◌∙◌, strides}
use Rattle.whole_text.proofs.Strides.{last_placed}
use Rattle.whole_text.proofs.packed.TokenList.last_line.Goals as goal

pub returns : goal.returns
returns c =
    rw (← c.self.view_is) (c.self.invariant.last ∙ sym (last_placed (strides c.self.inside.marks.items c.self.inside.wide.items)))
