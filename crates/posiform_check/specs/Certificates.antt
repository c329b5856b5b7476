-- What a certificate keeps, its limits, and why it proves nothing.
use Rattle.std.specs.Prelude.{◌≡◌, ◌≢◌, ℕ, ◌+◌, ◌^◌, ◌<◌, max, pos, ◌+ℤ◌, ◌≤ℤ◌, unsigned_abs, int_lt, false, Bool, List, [], ◌∷◌, length, map, fold, Option, Some, None, All, ⊤, if◌then◌else◌}
use Rattle.std.specs.List.{sum_by}
use Rattle.std.specs.List.Sorted.{IsStrictlySortedBy}
use Rattle.base.specs.Costs.{energy}
use Rattle.bits_model.specs.Output.{Written, form_of}
use Rattle.problem_form.specs.declared.limits.LimitKind.TheVariants.{Degree, Pairs}
use Rattle.problem_form.specs.declared.limits.LimitFault.{LimitFault}
use Rattle.problem_form.specs.Limits.{first_passed}
use Rattle.literal_lists.specs.Literals.{literal_cmp, has_clash}
use Rattle.term_table.specs.MultipliedOut.{complements}
use Rattle.posiform_check.specs.declared.lines.Line.{Line}
use Rattle.posiform_check.specs.declared.faults.ProofFault.TheVariants.{Negative, Differs, NotZero}
use Rattle.posiform_check.specs.declared.faults.ProofAnswer.{ProofAnswer}
use Rattle.posiform_check.specs.declared.faults.ProofAnswer.TheVariants.{Fault, NoMemory}
use Rattle.posiform_check.specs.BitForms.{CertificateContent, model_terms, certificate_terms, AreSameForms}
use Rattle.posiform_check.specs.Differences.{DifferAt}
use Rattle.posiform_check.specs.Proved.{Proves}
use Rattle.posiform_check.specs.declared.faults.ProofFault.{ProofFault}

-- ---- what it keeps

-- literals in order, none beside its complement, and at least one
pub record IsLine (l : Line) : Type 0 where
  pub filled : l.literals ≢ []
  pub ordered : IsStrictlySortedBy literal_cmp l.literals
  pub apart : has_clash l.literals ≡ false

-- the sum of the sizes of its numbers
abbrev pub certificate_total : CertificateContent → ℕ
certificate_total c = unsigned_abs c.bound + sum_by (λ l. unsigned_abs l.coefficient) c.lines

-- such lines, and sizes that sum to below 2^100
pub record IsCertificate (c : CertificateContent) : Type 0 where
  pub lines : All IsLine c.lines
  pub small : certificate_total c < 2 ^ 100

-- all literals are of the first n nodes
abbrev pub AreOfNodes : ℕ → CertificateContent → Type 0
AreOfNodes n c = All (λ (l : Line). All (λ k. k.variable < n) l.literals) c.lines

-- ---- its limits

-- the largest number of literals of a line
abbrev pub most_literals : List Line → ℕ
most_literals lines = fold max 0 (map (λ l. length l.literals) lines)

-- how many products its lines are multiplied out to
abbrev pub pairs : List Line → ℕ
pairs lines = sum_by (λ l. 2 ^ complements l.literals) lines

-- the first limit that it passes: that of degrees, and then that of pairs
abbrev pub certificate_fault : CertificateContent → Option LimitFault
certificate_fault c =
    first_passed
    (record { kind = Degree; number = most_literals c.lines; most = 8 }
    ∷ record { kind = Pairs; number = pairs c.lines; most = 2 ^ 24 }
    ∷ [])

-- ---- its first fault

-- the text's line of the first line with a negative coefficient
abbrev pub first_negative : List Line → Option ℕ
first_negative [] = None
first_negative (l ∷ lines) =
    if int_lt l.coefficient (pos 0) then Some l.line else first_negative lines

-- why a certificate does not prove a state of a model: a negative line, else a set whose
-- coefficients differ, else an energy above the bound
abbrev pub IsRefusal : Written → CertificateContent → List Bool → ProofAnswer → Type 0
IsRefusal m c y (Fault (Negative line)) = first_negative c.lines ≡ Some line
IsRefusal m c y (Fault (Differs a b)) =
    (first_negative c.lines ≡ None) × DifferAt (model_terms m) (certificate_terms c) a b
IsRefusal m c y (Fault (NotZero above)) =
    (first_negative c.lines ≡ None) × AreSameForms (model_terms m) (certificate_terms c)
    × (energy (form_of m) y ≡ c.bound +ℤ above) × (pos 1 ≤ℤ above)
IsRefusal m c y NoMemory = ⊤

-- a certificate with a fault does not prove the state
abbrev pub FaultsProveNothing : Type 0
FaultsProveNothing = (m : Written) (c : CertificateContent) (y : List Bool) (f : ProofFault)
    → IsRefusal m c y (Fault f) → ¬ (Proves m c y)
