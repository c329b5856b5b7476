-- The first fault as it is computed: without one the state is proved, and each one is why it is not.
use Rattle.posiform_check.proofs.Common.{nat_tests, ◌≡◌, Bool, List, ℕ, ℤ, pos, ◌-ℤ◌, Option, Some, None, refl, subst, arith, int_eq, ints, Decides-int_eq, energy, Written, form_of, ProofFault, CertificateContent, first_negative, IsRefusal, first_of, proof_fault, FirstFaultsTell, Proves, cond_both, model_terms, certificate_terms}
use Rattle.posiform_check.proofs.LeastStates.{energy_above}
use Rattle.posiform_check.proofs.FirstDifferences.{Says, comparison_says, faults_prove_nothing, signs}
use Rattle.posiform_check.specs.declared.faults.ProofFault.TheVariants.{NotZero}
use Rattle.posiform_check.specs.declared.faults.ProofAnswer.TheVariants.{Fault}

module _ (m : Written) (c : CertificateContent) (y : List Bool) where
  abbrev above : ℤ
  above = energy (form_of m) y -ℤ c.bound

  -- what no fault, or this one, tells
  abbrev Told : Option ProofFault → Type 0
  Told None = Proves m c y
  Told (Some f) = IsRefusal m c y (Fault f)

  told : (n : Option ℕ) (d : Option (ℤ × ℤ)) → first_negative c.lines ≡ n
      → Says d (model_terms m) (certificate_terms c) → Told (first_of n d above)
  told (Some line) d negative says = negative
  told None (Some d) none says = (none, says)
  told None None none says =
      let zero = Decides-int_eq above (pos 0) in
      let least = energy_above m c y says (signs c.lines none) in
      cond_both (int_eq above (pos 0)) None (Some (NotZero above)) Told
      (λ e. let equal = zero.0 e in
      record { signs = signs c.lines none; forms = says; bound = omega (arith, ints) })
      (λ e. let apart = zero.1 in (none, says, omega (arith, ints), grind (arith, nat_tests, ints)))

  told_first : Told (proof_fault m c y)
  told_first = told (first_negative c.lines) _ refl (comparison_says m c)

  none_of : Proves m c y → (f : Option ProofFault) → Told f → f ≡ None
  none_of p None t = refl
  none_of p (Some f) t = absurd (faults_prove_nothing m c y f t p)

pub first_faults_tell : FirstFaultsTell
first_faults_tell m c y = record {
  none = (λ e. subst (Told m c y) e (told_first m c y), λ p. none_of m c y p _ (told_first m c y));
  some = λ f e. subst (Told m c y) e (told_first m c y);
}
