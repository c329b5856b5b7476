use Rattle.poly_reader.proofs.Common.{◌<◌, ap, sym, subst, ◌∙◌, All, Literal, literal_set, literal_set-ascends, literal_set-ascending, All-literal_set}
use Rattle.poly_reader.proofs.listed.settle.Goals as goal

pub returns-clause-same : goal.returns-clause-same
returns-clause-same c =
    let ls = c.args.list.now.items in
    ap literal_set c.make_set.ensures.set
    ∙ literal_set-ascending (literal_set ls) (literal_set-ascends ls)

pub returns-clause-within : goal.returns-clause-within
returns-clause-within c v within =
    let P : Literal → Type 0 = λ l. l.variable < v in
    subst (All P) (sym c.make_set.ensures.set) (All-literal_set P c.args.list.now.items within)
