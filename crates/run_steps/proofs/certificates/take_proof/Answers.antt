use Rattle.run_steps.proofs.Lemmas.{arith, nat_tests, ◌≡◌, Ok, Some, subst, Written, certifying, Refuses, alone_refused, certificate_refuses, certified_meets, proved_files, reads, returned}
use Rattle.posiform_check.specs.Certificates.{AreOfNodes}
use Rattle.run_steps.proofs.certificates.take_proof.Goals as goal

pub returns-in_err-certificate-clause-step : goal.returns-in_err-certificate-clause-step
returns-in_err-certificate-clause-step g c = λ held may.
    let name = c.args.name.now in
    rw (returned c.from_residual.ensures.1) (certificate_refuses _ _ _ _ _
    (subst (λ (n : Written). Refuses c.in_err-certificate.field-0.0 (certifying held name n.nodes))
    c.model.view_is (c.in_err-certificate.ensures.took.step held may)))

pub returns-in_err-certificate-clause-files : goal.returns-in_err-certificate-clause-files
returns-in_err-certificate-clause-files g c = grind (arith, nat_tests, returned, alone_refused)

pub returns-in_err-certificate-clause-refusal : goal.returns-in_err-certificate-clause-refusal
returns-in_err-certificate-clause-refusal g c =
    rw (returned c.from_residual.ensures.1) (reads c.in_err-certificate.ensures.took)

pub proved-requires-clause-nodes : goal.proved-requires-clause-nodes
proved-requires-clause-nodes g c =
    subst (λ (n : Written). AreOfNodes n.nodes c.in_ok-certificate.certificate) c.model.view_is
    c.in_ok-certificate.ensures.fits.0

pub returns-clause-step : goal.returns-clause-step
returns-clause-step g c = λ held may.
    let name = c.args.name.now in
    certified_meets _ _ _ _ _ _ _
    (subst (λ (n : Written). (certifying held name n.nodes).end ≡ Some (Ok
    c.in_ok-certificate.certificate))
    c.model.view_is (c.in_ok-certificate.ensures.took.step held may)) c.proved.ensures.step

pub returns-clause-files : goal.returns-clause-files
returns-clause-files g c = grind (arith, nat_tests, proved_files)
