use Rattle.model_pipeline.proofs.Common.{refl, ◌∙◌, ap, subst, sym, limit_fault, IsNormal, figures, quad_of, terms_of}
use Rattle.model_pipeline.specs.Kept.{AreNewOf}
use Rattle.model_pipeline.proofs.Standing.{formed_as, problem_formed}
use Rattle.model_pipeline.proofs.KeptSteps.{kept_as}
use Rattle.model_pipeline.proofs.forms.quadratized.Goals as goal

pub normal_terms-requires : goal.normal_terms-requires
normal_terms-requires g c = record {
  normal = subst IsNormal (sym c.problem-source.ensures.same) c.problem-source.ensures.normal;
  within = ap (limit_fault c.args.choices.now.normal) c.problem-source.ensures.same ∙ c.requires;
}

pub low_form-requires : goal.low_form-requires
low_form-requires g c =
    (terms_of c.args.choices.now.normal c.problem-source.result.now, c.in_ok-terms.ensures)

pub returns : goal.returns
returns g c =
    let choices = c.args.choices.now in
    let source = c.problem-source.ensures in
    let image = c.in_ok-quad.ensures.image (terms_of choices.normal c.problem-source.result.now) c.in_ok-terms.ensures
    ∙ ap (quad_of choices) source.same in
    record {
      image = image;
      stands = formed_as (g.P.Held.problem c.args.problem) _ _ _ image (c.problem_figures-figures.ensures
          ∙ ap figures source.same) (problem_formed choices _ source.normal c.requires);
      kept = kept_as c.args.keep choices _ _ c.then_some.result c.then_some.ensures (record {
        chosen = refl;
        nodes = subst (λ p. AreNewOf choices p c.in_ok-quad.field-0.new_nodes) source.same
            (c.in_ok-quad.ensures.new_nodes (terms_of choices.normal c.problem-source.result.now) c.in_ok-terms.ensures);
      });
    }
