use Rattle.source_texts.proofs.Common.{◌≡◌, None, ap, ◌∙◌}
use Rattle.problem_form.specs.Limits.{limit_fault}
use Rattle.problem_form.specs.Problems.{form_of}
use Rattle.source_texts.specs.Prepared.{with_bound, with_scope}
use Rattle.source_texts.proofs.Prepared.{form-prepared, limits-scope}
use Rattle.source_texts.proofs.preparing.prepare.Goals as goal

pub returns-clause-costs : goal.returns-clause-costs
returns-clause-costs c =
    let w = c.args.wanted.now in
    ap form_of (c.in_ok-penalize.ensures.value ∙ ap (with_scope w.penalty) (c.bound_costs.ensures
    ∙ ap (with_bound w.bound) c.in_ok-problem.ensures)) ∙ form-prepared w c.args.problem

pub returns-clause-within : goal.returns-clause-within
returns-clause-within c =
    let w = c.args.wanted.now in
    let normal = w.choices.normal in
    let q = c.bound_costs.new.problem in
    let within : limit_fault normal q ≡ None = c.in_default.ensures.exact in
    ap (limit_fault normal) c.in_ok-penalize.ensures.value ∙ limits-scope w.penalty normal q ∙ within
