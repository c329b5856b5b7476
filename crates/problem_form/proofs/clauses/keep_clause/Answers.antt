use Rattle.problem_form.proofs.Lemmas.{◌≡◌, ◌++◌, ◌∷◌, [], List, ap, sym, subst, ◌∙◌, OnOk, Literal, Clause, has_clash, is_plain_cost, kept_clause-clash, kept_clause-number, kept_clause-kept, as_before}
use Rattle.problem_form.proofs.clauses.keep_clause.Goals as goal

pub returns-then-clashes-clause-kept : goal.returns-then-clashes-clause-kept
returns-then-clashes-clause-kept c =
    let clash = ap has_clash (sym c.deref.ensures.value) ∙ sym c.clashes.ensures ∙ c.if-clashes.true in
    as_before c.args.clauses.now _ (kept_clause-clash
    (record { literals = c.args.literals.now.items; weight = c.args.weight }) _ c.make_set.ensures.set clash)

pub returns-then-is_number-clause-kept : goal.returns-then-is_number-clause-kept
returns-then-is_number-clause-kept c =
    let number = ap (is_plain_cost c.args.weight) (sym c.deref-2.ensures.value) ∙ sym c.is_number.ensures in
    as_before c.args.clauses.now _
    (kept_clause-number (record { literals = c.args.literals.now.items; weight = c.args.weight }) _
    c.make_set.ensures.set (number ∙ c.if-is_number.true))

pub returns-clause-kept : goal.returns-clause-kept
returns-clause-kept c =
    let clauses = c.args.clauses.now in
    let written : Clause = record { literals = c.args.literals.now.items; weight = c.args.weight } in
    let clash = ap has_clash (sym c.deref.ensures.value) ∙ sym c.clashes.ensures ∙ c.if-clashes.false in
    let number = ap (is_plain_cost c.args.weight) (sym c.deref-2.ensures.value) ∙ sym c.is_number.ensures
    ∙ c.if-is_number.false in
    let one : List Literal → List Clause = λ ls. record { literals = ls; weight = c.args.weight } ∷ [] in
    let P : List Clause → Type 0 = λ kept. OnOk c.push.result (c.push.new.self ≡ clauses ++ kept) in
    subst P (ap one c.deref-3.ensures.value
    ∙ kept_clause-kept written c.make_set.new.literals.items c.make_set.ensures.set clash number)
    c.push.ensures.pushed
