use Rattle.model_pipeline.proofs.Common.{◌≡◌, None, IfOk-weaker, subst, limit_fault, additions_of}
use Rattle.problem_form.specs.declared.limits.Normal.TheVariants.{Literal, Multilinear}
use Rattle.model_pipeline.proofs.Standing.{added, plain_additions}
use Rattle.model_pipeline.proofs.forms.normal_terms.Goals as goal

pub returns-in-Literal : goal.returns-in-Literal
returns-in-Literal c =
    let p = c.args.problem.now in
    let within = subst (λ n. limit_fault n p ≡ None) c.in-Literal.is c.requires.within in
    rw c.in-Literal.is (IfOk-weaker c.problem_terms.result _ _
    (λ terms held. (additions_of p, added Literal p c.requires.normal within, held)) c.problem_terms.ensures.held)

pub returns-in-Multilinear : goal.returns-in-Multilinear
returns-in-Multilinear c =
    let p = c.args.problem.now in
    let within = subst (λ n. limit_fault n p ≡ None) c.in-Multilinear.is c.requires.within in
    rw c.in-Multilinear.is (IfOk-weaker c.multilinear_terms.result _ _
    (λ terms held. (plain_additions p, added Multilinear p c.requires.normal within, held)) c.multilinear_terms.ensures)
