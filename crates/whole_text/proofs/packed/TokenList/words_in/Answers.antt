use Rattle.whole_text.proofs.Common.{nat_tests, arith, ◌∙◌, strides}
use Rattle.whole_text.proofs.Strides.{joined_bytes, words_placed}
use Rattle.whole_text.proofs.packed.TokenList.words_in.Goals as goal

pub new-requires : goal.new-requires
new-requires c = grind (arith, nat_tests, joined_bytes)

pub returns : goal.returns
returns c =
    let ss = strides c.self.inside.marks.items c.self.inside.wide.items in
    rw (← c.self.view_is) (c.new.ensures ∙ rw (c.deref.ensures.value, c.deref-2.ensures.value) (words_placed c.args.bytes.now 0 1 ss))
