use Rattle.term_table.proofs.Common.{nat_tests, arith, List, subst, sym, ap, ◌∙◌, Literal, has_clash, literal_set-ascends, IsTermSet}
use Rattle.term_table.proofs.TermProducts.{union_set}
use Rattle.term_table.proofs.products.gather_union.Goals as goal

pub clashes-requires : goal.clashes-requires
clashes-requires c = grind (arith, nat_tests, literal_set-ascends)

pub add-requires-clause-set : goal.add-requires-clause-set
add-requires-clause-set c =
    let width = c.args.into.now.width in
    let apart =
    ap has_clash (sym (c.deref.ensures.value ∙ c.in_ok-unite.ensures)) ∙ sym c.clashes.ensures ∙ c.if-clashes.false in
    subst (λ (us : List Literal). IsTermSet width us) (sym (c.deref-2.ensures.value ∙ c.in_ok-unite.ensures))
    (union_set width c.args.ls.now c.args.ks.now c.requires.left c.requires.right apart)
