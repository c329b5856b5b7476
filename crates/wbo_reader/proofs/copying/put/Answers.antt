use Rattle.wbo_reader.proofs.Lemmas.{◌≡◌, ◌∷◌, [], subst, OnOk, Constraint, with_rows, normal_itself}
use Rattle.wbo_reader.proofs.Added.{row_normal, row_small, row_within}
use Rattle.wbo_reader.proofs.copying.put.Goals as goal

pub add_constraint-requires-clause-small : goal.add_constraint-requires-clause-small
add_constraint-requires-clause-small c = row_small c.args.problem.now c.args.written.now c.requires

pub add_constraint-requires-clause-within : goal.add_constraint-requires-clause-within
add_constraint-requires-clause-within c =
    row_within c.args.problem.now c.args.written.now c.requires

pub returns : goal.returns
returns c =
    let p = c.args.problem.now in
    let k = c.args.written.now in
    let same = normal_itself p.variables k (row_normal p k c.requires) in
    subst (λ (k : Constraint). OnOk c.add_constraint.result (c.add_constraint.new.self
    ≡ with_rows p (k ∷ []))) same c.add_constraint.ensures.added
