-- How many bits are read last, and that those of a proof are of a least state.
use Rattle.program_run.proofs.Common.{nat_tests, arith, ◌≡◌, ℕ, Bool, List, length, Ok, Some, None, subst, Option, NamedFiles, Written, form_of, IsLeastState, CertificateContent, proof_fault, ProofFault, first_faults_tell, proved_is_least, ends, stating, certifying, certified, proof_end, bound, state_is_taken, state_has_width}

-- so many bits were read
pub stated_width : (held : NamedFiles) (name : List ℕ) (width : ℕ) (bits : List Bool)
    → (stating held name width).end ≡ Some (Ok bits) → length bits ≡ width
stated_width held name width bits e =
    let taken = state_is_taken held name width bits e in state_has_width width taken.0 bits taken.2

proof_keeps : (bits : List Bool) (fault : Option ProofFault) (kept : List Bool)
    → proof_end bits fault ≡ Ok kept → (bits ≡ kept) × (fault ≡ None)
proof_keeps bits fault kept e = grind (arith, nat_tests)

-- bits that a certificate proves are those of a state of the model, which has no fault
pub record IsCertified (m : Written) (bits : List Bool) : Type 0 where
  pub certificate : CertificateContent
  pub none : proof_fault m certificate bits ≡ None

certified_is : (held : NamedFiles) (name : List ℕ) (m : Written) (given bits : List Bool)
    → (certified held name m given).end ≡ Some (Ok bits) → (given ≡ bits) × IsCertified m bits
unfolding certified
certified_is held name m given bits e =
    let read = bound (certifying held name m.nodes)
    (λ c. ends (proof_end given (proof_fault m c given))) bits e in
    let end : proof_end given (proof_fault m read.0 given) ≡ Ok bits = let two = read.2 in cc in
    let kept = proof_keeps given (proof_fault m read.0 given) bits end in
    grind (arith, nat_tests)

-- a state that was read and then proved
pub record IsProvedState (m : Written) (bits : List Bool) : Type 0 where
  pub width : length bits ≡ m.nodes
  pub certified : IsCertified m bits

pub proved_is : (held : NamedFiles) (state certificate : List ℕ) (m : Written) (given bits : List Bool)
    → (stating held state m.nodes).end ≡ Some (Ok given)
    → (certified held certificate m given).end ≡ Some (Ok bits) → IsProvedState m bits
proved_is held state certificate m given bits e f =
    let proof = certified_is held certificate m given bits f in
    record {
      width = subst (λ b. length b ≡ m.nodes) proof.0 (stated_width held state m.nodes given e);
      certified = proof.1;
    }

-- no state has a lesser energy
pub proved_least : (m : Written) (bits : List Bool) → IsProvedState m bits
    → IsLeastState (form_of m) bits
proved_least m bits is =
    proved_is_least m is.certified.certificate bits is.width
    ((first_faults_tell m is.certified.certificate bits).none.0 is.certified.none)
