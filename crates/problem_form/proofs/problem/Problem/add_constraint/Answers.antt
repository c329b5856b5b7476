use Rattle.problem_form.proofs.Lemmas.{List, [], ◌∷◌, ◌++◌, Constraint, IsSound, content_within, normal_constraint, with_constraint, by_result, at_view, with_constraint-sound}
use Rattle.problem_form.proofs.problem.Problem.add_constraint.Goals as goal

pub invariant_of-self : goal.invariant_of-self
invariant_of-self c =
    let p = content_within c.self.inside in
    let added = c.args.constraint.now in
    let With : List Constraint → Type 0 = λ ks. IsSound (record p { constraints = ks }) in
    by_result c.push_normal.result With c.push_normal.new.self
    (p.constraints ++ normal_constraint added ∷ []) p.constraints c.push_normal.ensures.pushed
    c.push_normal.ensures.unchanged (at_view (λ q. IsSound (with_constraint q added)) p _ c.self.view_is
    (λ s. with_constraint-sound _ added s c.requires.within c.requires.small) c.self.invariant) c.self.invariant
