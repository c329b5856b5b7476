-- A proved state is least.
use Rattle.posiform_check.proofs.Common.{List, Bool, ◌≤ℤ◌, arith, ints, energy, Written, form_of, CertificateContent, model_terms, certificate_terms, ProvedIsLeast, pos, All, AreSameForms, Line}
use Rattle.posiform_check.proofs.Values.{same_value, bound_below, model_value}

-- no energy is below the bound
pub energy_above : (m : Written) (c : CertificateContent) (z : List Bool)
    → AreSameForms (model_terms m) (certificate_terms c)
    → All (λ (l : Line). pos 0 ≤ℤ l.coefficient) c.lines → c.bound ≤ℤ energy (form_of m) z
energy_above m c z same signs =
    let value = same_value (model_terms m) (certificate_terms c) same z in
    omega (arith, ints, model_value m z, bound_below c z signs)

pub proved_is_least : ProvedIsLeast
proved_is_least m c y w p = record {
  width = w;
  least = λ z v. omega (arith, ints, p.bound, energy_above m c z p.forms p.signs);
}
