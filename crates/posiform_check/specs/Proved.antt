-- What it means that a certificate proves a state, and what follows.
use Rattle.std.specs.Prelude.{◌≡◌, pos, ◌≤ℤ◌, Bool, List, All}
use Rattle.base.specs.Costs.{IsOf, energy}
use Rattle.form_steps.specs.Least.{IsLeastState}
use Rattle.bits_model.specs.Output.{Written, form_of}
use Rattle.posiform_check.specs.declared.lines.Line.{Line}
use Rattle.posiform_check.specs.BitForms.{CertificateContent, model_terms, certificate_terms, AreSameForms}

-- no line has a negative coefficient, the model and the certificate are one form, and the energy of
-- the state is the bound
pub record Proves (m : Written) (c : CertificateContent) (y : List Bool) : Type 0 where
  pub signs : All (λ (l : Line). pos 0 ≤ℤ l.coefficient) c.lines
  pub forms : AreSameForms (model_terms m) (certificate_terms c)
  pub bound : energy (form_of m) y ≡ c.bound

-- no state of the model has a lesser energy than one that is proved
abbrev pub ProvedIsLeast : Type 0
ProvedIsLeast = (m : Written) (c : CertificateContent) (y : List Bool) → IsOf (form_of m) y
    → Proves m c y → IsLeastState (form_of m) y
