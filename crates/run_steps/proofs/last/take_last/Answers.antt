use Rattle.run_steps.proofs.Lemmas.{arith, nat_tests, ◌≡◌, ℕ, refl, ◌∙◌, ap, Bool, Global, Vec, Ok, Some, subst, length, IfOk-weaker, stating, Refuses, alone_refused, bits_read, bits_refuse, then_returned, may_certificate, may_state, state_files_are, reads, returned}
use Rattle.run_steps.proofs.FilesRead.{refused_first}
use Rattle.run_steps.proofs.last.take_last.Goals as goal

pub returns-in_err-bits-clause-step : goal.returns-in_err-bits-clause-step
returns-in_err-bits-clause-step g c = λ held may.
    let status = c.in_err-bits.field-0.0 in
    rw (returned c.from_residual.ensures.1) (bits_refuse _ _ _ _ _ _ _ c.requires.asked
    (subst (λ (n : ℕ). Refuses status (stating held c.args.name.now n))
    c.width_of-width.ensures (c.in_err-bits.ensures.took.step held
    (may_state (g.F.Files.held c.args.files.now) c.args.command.now _ _ held c.requires.asked may))))

pub returns-in_err-bits-clause-files : goal.returns-in_err-bits-clause-files
returns-in_err-bits-clause-files g c =
    grind (arith, nat_tests, returned, alone_refused, state_files_are, refused_first)

pub returns-in_err-bits-clause-refusal : goal.returns-in_err-bits-clause-refusal
returns-in_err-bits-clause-refusal g c =
    rw (returned c.from_residual.ensures.1) (reads c.in_err-bits.ensures.took)

pub take_proof-requires-clause-asked : goal.take_proof-requires-clause-asked
take_proof-requires-clause-asked g c = rw (c.requires.asked, c.in-Prove.is) refl

pub returns-in-Prove-clause-step : goal.returns-in-Prove-clause-step
returns-in-Prove-clause-step g c = λ held may.
    let command = c.args.command.now in
    let told = g.F.Files.held c.args.files.now in
    bits_read _ _ _ _ _ (λ (b : Vec Bool Global). b.items) c.take_proof.result _
    c.in_ok-bits.bits.items c.requires.asked
    (subst (λ (n : ℕ). (stating held c.args.name.now n).end ≡ Some (Ok c.in_ok-bits.bits.items))
    c.width_of-width.ensures (c.in_ok-bits.ensures.took.step held
    (may_state told command _ _ held c.requires.asked may)))
    (rw c.in-Prove.is (c.take_proof.ensures.step held
    (may_certificate told (g.F.Files.held c.take_named.new.files) command _ _ held
    c.requires.asked c.in_ok-bits.ensures.took.held may)))

pub returns-in-Prove-clause-width : goal.returns-in-Prove-clause-width
returns-in-Prove-clause-width g c =
    IfOk-weaker c.take_proof.result _ _
    (λ b same. ap (λ (v : Vec Bool Global). length v.items) same ∙ c.in_ok-bits.ensures.fits
    ∙ c.width_of-width.ensures) c.take_proof.ensures.same

pub returns-in-Prove-clause-files : goal.returns-in-Prove-clause-files
returns-in-Prove-clause-files g c = grind (arith, nat_tests, state_files_are, then_returned)
