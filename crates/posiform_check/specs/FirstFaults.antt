-- The first fault of a certificate as a proof of a state, computed.
use Rattle.std.specs.Prelude.{◌≡◌, ◌↔◌, ℕ, ℤ, pos, ◌-ℤ◌, Bool, List, Option, Some, None, ⊤, if◌then◌else◌}
use Rattle.std.specs.Ordering.{int_eq}
use Rattle.base.specs.Costs.{energy}
use Rattle.bits_model.specs.Output.{Written, form_of}
use Rattle.posiform_check.specs.declared.faults.ProofFault.{ProofFault}
use Rattle.posiform_check.specs.declared.faults.ProofFault.TheVariants.{Negative, Differs, NotZero}
use Rattle.posiform_check.specs.declared.faults.ProofAnswer.{ProofAnswer}
use Rattle.posiform_check.specs.declared.faults.ProofAnswer.TheVariants.{Fault, NoMemory}
use Rattle.posiform_check.specs.BitForms.{CertificateContent, model_list, certificate_list}
use Rattle.posiform_check.specs.Differences.{difference}
use Rattle.posiform_check.specs.Certificates.{first_negative, IsRefusal}
use Rattle.posiform_check.specs.Proved.{Proves}

-- a negative line, else two coefficients that differ, else a number above the bound
abbrev pub first_of : Option ℕ → Option (ℤ × ℤ) → ℤ → Option ProofFault
first_of (Some line) found above = Some (Negative line)
first_of None (Some found) above = Some (Differs found.0 found.1)
first_of None None above = if int_eq above (pos 0) then None else Some (NotZero above)

-- the first negative line, else the first set whose coefficients differ, else the energy of the
-- state less the bound, where that is not 0
abbrev pub proof_fault : Written → CertificateContent → List Bool → Option ProofFault
proof_fault m c y =
    first_of (first_negative c.lines) (difference (model_list m) (certificate_list c))
    (energy (form_of m) y -ℤ c.bound)

-- an answer that is the first fault, or want of memory
abbrev pub IsFirstFault : Written → CertificateContent → List Bool → ProofAnswer → Type 0
IsFirstFault m c y (Fault f) = proof_fault m c y ≡ Some f
IsFirstFault m c y NoMemory = ⊤

-- there is no first fault exactly where the state is proved, and each one is why it is not
pub record FaultsOf (m : Written) (c : CertificateContent) (y : List Bool) : Type 0 where
  pub none : proof_fault m c y ≡ None ↔ Proves m c y
  pub some : (f : ProofFault) → proof_fault m c y ≡ Some f → IsRefusal m c y (Fault f)

-- for every model, certificate and state the first fault says whether it is proved, and why not
abbrev pub FirstFaultsTell : Type 0
FirstFaultsTell = (m : Written) (c : CertificateContent) (y : List Bool) → FaultsOf m c y
