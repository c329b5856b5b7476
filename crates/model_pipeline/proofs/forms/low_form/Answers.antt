use Rattle.model_pipeline.proofs.Common.{◌∙◌, ap, IfOk-weaker}
use Rattle.monomial_layer.specs.Monomials as monomials
use Rattle.quad_form.specs.Flat as flat
use Rattle.model_pipeline.proofs.Standing.{IsWithin-small}
use Rattle.model_pipeline.proofs.forms.low_form.Goals as goal

pub into_form-requires : goal.into_form-requires
into_form-requires c =
    let held = c.requires.1 in
    record { held = (held.0, IsWithin-small c.requires.0 held.0 held.1, held.2) }

pub returns-in-Monomial-clause-image : goal.returns-in-Monomial-clause-image
returns-in-Monomial-clause-image c t (u, adds, held) =
    rw c.in-Monomial.is (IfOk-weaker c.into_form.result _ _
    (λ form same. same ∙ ap (λ s. flat.image (monomials.image s)) adds.table)
    (c.into_form.ensures.quad u (IsWithin-small t u adds) held))
