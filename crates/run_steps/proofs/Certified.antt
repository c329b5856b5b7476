-- A certificate that is read, and a state that it proves or does not; the last step of a command.
use Rattle.run_steps.proofs.Common.{nat_tests, arith, ◌≡◌, ℕ, Bool, List, [], ◌++◌, Ok, Some, Result, IfErr, NamedFiles, Counts, Written, CertificateContent, proof_fault, Which, Ask, OfState, Status, asked_width, Steps, Last, ends, gives, ◌>>=◌, stating, certifying, certified, proving, proof_end, Bits, last_step, Meets, Refuses, IsReading, IsUnproved, ended, AreRead, AreRefused, AreFilesOf}
use Rattle.command_words.specs.declared.commands.Ask.TheVariants as asks
use Rattle.run_steps.proofs.FilesRead.{made_then, read_then, read_wanting}
use Rattle.run_steps.proofs.Stepping.{bits_meet, meets_next, refuses_on}

-- the certificate was read, and what its proof gives is what both give
pub certified_meets : {X : Type 0} (view : X → List Bool) (result : Result X Status)
    (held : NamedFiles) (name : List ℕ) (m : Written) (bits : List Bool) (c : CertificateContent)
    → (certifying held name m.nodes).end ≡ Some (Ok c)
    → Meets view result (ends (proof_end bits (proof_fault m c bits)))
    → Meets view result (certified held name m bits)
unfolding certified
certified_meets view result held name m bits c e meets = grind (arith, nat_tests)

-- the certificate refuses
pub certificate_refuses : (held : NamedFiles) (name : List ℕ) (m : Written) (bits : List Bool)
    (status : Status) → Refuses status (certifying held name m.nodes)
    → Refuses status (certified held name m bits)
unfolding certified
certificate_refuses held name m bits status refused = grind (arith, nat_tests, refuses_on)

-- a file alone was refused
pub alone_refused : (name : Which → List ℕ) (files : List Which) (status : Status) (a b : Counts)
    → AreRefused name files status a b → AreFilesOf name [] files status a b
alone_refused name files status a b is = grind (arith, nat_tests)

-- a file alone was read, and then its proof has a fault, or memory was wanting
pub unproved_read : (name : Which → List ℕ) (files : List Which) (status : Status) (a b : Counts)
    → IsUnproved status → AreRead name files a b → AreFilesOf name [] files status a b
unproved_read name files status a b is read = grind (arith, nat_tests, read_wanting)

-- the same of what a proof returned
pub proved_files : {X : Type 0} (result : Result X Status) (name : Which → List ℕ)
    (files : List Which) (a b : Counts) → IfErr result IsUnproved → AreRead name files a b
    → AreFilesOf name [] files (ended result) a b
proved_files result name files a b is read = grind (arith, nat_tests, unproved_read)

-- files were read, and then come others
pub then_last : (name : Which → List ℕ) (first last : List Which) (status : Status)
    (a b c : Counts) → IsReading status → AreRead name first a b
    → AreFilesOf name [] last status b c → AreFilesOf name [] (first ++ last) status a c
then_last name first last status a b c is some same = grind (arith, nat_tests, made_then)

-- ---- the bits of a command

-- files were read, and then come others, of which this was returned
pub then_returned : {X : Type 0} (result : Result X Status) (name : Which → List ℕ)
    (first last : List Which) (a b c : Counts) → IfErr result IsReading → AreRead name first a b
    → AreFilesOf name [] last (ended result) b c → AreFilesOf name [] (first ++ last) (ended result) a c
then_returned result name first last a b c is some read =
    grind (arith, nat_tests, read_then, then_last)

module _ (held : NamedFiles) (name : List ℕ) (of : OfState) (variables : ℕ) (m : Written) where
  -- so many bits of a state or an assignment
  abbrev pub asked : Steps (List Bool)
  asked = stating held name (asked_width of variables m)

  -- what comes after them
  abbrev after : List Bool → Steps Last
  after read = proving held of m read >>= λ bits. gives (Bits bits)

  -- what refuses the bits refuses the step that reads them
  pub bits_refuse : (ask : Ask) (status : Status) → ask ≡ asks.State name of
      → Refuses status asked → Refuses status (last_step held ask variables m)
  bits_refuse ask status is refused = rw is (refuses_on status asked after refused)

  -- bits were read, and what proves them gives what is read last
  pub bits_read : {X : Type 0} (view : X → List Bool) (result : Result X Status) (ask : Ask)
      (read : List Bool) → ask ≡ asks.State name of → asked.end ≡ Some (Ok read)
      → Meets view result (proving held of m read)
      → Meets (λ x. Bits (view x)) result (last_step held ask variables m)
  bits_read view result ask read is e meets =
      rw is (meets_next (λ x. Bits (view x)) result asked after read e
      (bits_meet view result (proving held of m read) meets))
