use Rattle.problem_form.proofs.Lemmas.{subst, sym, arith, List, Constraint, IsSound, content_within, IsNormal, IsNormalProduct, ProblemContent, constraint_total, with_marked, All, Bool, All-marked, sum_by-marked}
use Rattle.problem_form.proofs.problem.Problem.keep_constraints.Goals as goal

marked-sound : (p : ProblemContent) (ms : List Bool) → IsSound p → IsSound (with_marked p ms)
marked-sound p ms sound =
    let Normal : Constraint → Type 0 = λ k. All (IsNormalProduct p.variables) k.products in
    let normal : IsNormal (with_marked p ms) =
    record {
      objective = sound.0.objective;
      clauses = sound.0.clauses;
      constraints = All-marked Normal ms p.constraints sound.0.constraints;
      most = sound.0.most;
    } in
    (normal, omega (arith, sound.1, sum_by-marked constraint_total ms p.constraints))

pub invariant_of-self : goal.invariant_of-self
invariant_of-self c =
    let p = content_within c.self.inside in
    let With : List Constraint → Type 0 = λ ks. IsSound (record p { constraints = ks }) in
    subst With (sym c.keep_marked.ensures) (marked-sound p c.args.kept.now c.self.invariant)
