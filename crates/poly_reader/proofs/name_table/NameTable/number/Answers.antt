use Rattle.poly_reader.proofs.Common.{ap, sym, ◌∙◌, subst, AreNames, with_name, number_of, names_lent}
use Rattle.poly_reader.proofs.NameLists.{with_name-lent, with_name-form, number_of-lent}
use Rattle.poly_reader.proofs.NameNumbers.{number_of-with_name}
use Rattle.poly_reader.proofs.name_table.NameTable.number.Goals as goal

pub returns-clause-added : goal.returns-clause-added
returns-clause-added c =
    ap names_lent c.in_ok-number.ensures.keys ∙ with_name-lent c.self.inside.set.keys c.args.name
    ∙ ap (λ names. with_name names c.args.name.now) c.self.view_is

pub returns-clause-number : goal.returns-clause-number
returns-clause-number c =
    let keys = c.self.inside.set.keys in
    let name = c.args.name in
    let added = ap names_lent c.in_ok-number.ensures.keys ∙ with_name-lent keys name in
    c.in_ok-number.ensures.index ∙ number_of-lent keys name
    ∙ sym (number_of-with_name (names_lent keys) name.now)
    ∙ ap (λ names. number_of names name.now) (sym added)

pub invariant_of-self : goal.invariant_of-self
invariant_of-self c = subst AreNames (sym (ap names_lent c.in_err-number.ensures.err)) c.self.invariant

pub invariant_of-self-2 : goal.invariant_of-self-2
invariant_of-self-2 c =
    let added = ap names_lent c.in_ok-number.ensures.keys ∙ with_name-lent c.self.inside.set.keys c.args.name in
    subst AreNames (sym added) (with_name-form _ _ c.requires c.self.invariant)
