-- How the taking of a begun file ended.
use Rattle.run_steps.proofs.Common.{nat_tests, ◌≡◌, ℕ, ◌+◌, ◌≤◌, Result, arith, ◌↔◌, IsErrOf, OnOk, ReadAnswer, Counts, Rose, HasEnded}
use Rattle.edge_io.specs.declared.whole.ReadAnswer.TheVariants.{ReadFault, TooLong}

pub ended_to_end : {T : Type 0} (limit faults : ℕ) (now : Counts) (result : Result T ReadAnswer)
    → HasEnded limit faults now result → OnOk result (now.empty_reads ≡ 1)
ended_to_end limit faults now result ended = grind (arith, nat_tests)

pub ended_too_long : {T : Type 0} (limit faults : ℕ) (now : Counts) (result : Result T ReadAnswer)
    → HasEnded limit faults now result → IsErrOf result TooLong → now.empty_reads ≡ 0
ended_too_long limit faults now result ended is = grind (arith, nat_tests)

pub ended_fault : {T : Type 0} (limit faults : ℕ) (now : Counts) (result : Result T ReadAnswer)
    → HasEnded limit faults now result → IsErrOf result ReadFault → Rose faults now.faults
ended_fault limit faults now result ended is = grind (arith, nat_tests)

pub ended_calm : {T : Type 0} (limit faults : ℕ) (now : Counts) (result : Result T ReadAnswer)
    → HasEnded limit faults now result → ¬ (IsErrOf result ReadFault) → now.faults ≡ faults
ended_calm limit faults now result ended other = grind (arith, nat_tests)

pub ended_taken : {T : Type 0} (limit faults : ℕ) (now : Counts) (result : Result T ReadAnswer)
    → HasEnded limit faults now result
    → (now.taken ≤ limit + 1) × (IsErrOf result TooLong ↔ (now.taken ≡ limit + 1))
ended_taken limit faults now result ended = grind (arith, nat_tests)
