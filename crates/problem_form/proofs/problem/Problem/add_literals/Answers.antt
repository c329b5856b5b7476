use Rattle.problem_form.proofs.Lemmas.{◌≡◌, ◌+◌, ◌<◌, ◌^◌, ◌+ℤ◌, to_z, of_z, subst, sym, ap, ◌∙◌, arith, w128, ints, Clause, IsSound, content_within, clause_constant, List, Literal, ProblemContent, problem_total, soft_weight, with_clause, kept_clause-size, with_clause-sound, at_view}
use Rattle.problem_form.proofs.problem.Problem.add_literals.Goals as goal

pub invariant_of-self-2 : goal.invariant_of-self-2
invariant_of-self-2 c =
    let p = content_within c.self.inside in
    let written : Clause = record { literals = c.args.literals.now.items; weight = c.args.weight } in
    let small = subst (λ (f : ProblemContent). problem_total f + soft_weight written < 2 ^ 100) (sym c.self.view_is) c.requires.small in
    let added = c.weight_constant-constant.ensures
    ∙ ap (λ (ls : List Literal). clause_constant (record { literals = ls; weight = c.args.weight })) c.deref.ensures.value in
    let constant : to_z w128 (of_z w128 (to_z w128 (of_z w128 p.constant)
    +ℤ to_z w128 (of_z w128 c.from.result))) ≡ p.constant +ℤ clause_constant written =
    omega (arith, ints, added, c.from.ensures, kept_clause-size written, small) in
    let Sound : ProblemContent → Type 0 = IsSound in
    subst Sound (λ i. record p { constant = sym constant i; clauses = sym c.in_ok-kept.ensures.kept i })
    (at_view (λ q. IsSound (with_clause q written)) p _ c.self.view_is
    (λ s. with_clause-sound _ written s c.requires.within c.requires.small) c.self.invariant)
