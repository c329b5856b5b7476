use Rattle.model_pipeline.specs.declared.site.Qubits.TheVariants.{Listed}
use Rattle.run_steps.proofs.Lemmas.{gives, surveying, refl, ap, sym, still_refuses, takes_files, takes_given, takes_same}
use Rattle.run_steps.proofs.placements.take_qubits.Goals as goal

pub take_working-requires : goal.take_working-requires
take_working-requires g c = rw (c.requires, c.in-Chimera.is) refl

pub returns-in-Chimera : goal.returns-in-Chimera
unfolding surveying
returns-in-Chimera g c =
    takes_files (rw (c.requires, c.in-Chimera.is) refl)
    (takes_same (λ held. rw c.in-Chimera.is refl) c.take_working.ensures)

pub take_named-requires : goal.take_named-requires
take_named-requires g c = rw (c.requires, c.in-Listed.is) refl

pub returns-in_ok-listed-in-Listed : goal.returns-in_ok-listed-in-Listed
unfolding surveying
returns-in_ok-listed-in-Listed g c =
    takes_files (rw (c.requires, c.in-Listed.is) refl)
    (takes_same (λ held. rw c.in-Listed.is refl)
    (takes_given Listed (sym (ap Listed c.of.ensures)) c.in_ok-listed-in-Listed.ensures.took))

pub returns-in_err-listed-in-Listed : goal.returns-in_err-listed-in-Listed
unfolding surveying
returns-in_err-listed-in-Listed g c =
    takes_files (rw (c.requires, c.in-Listed.is) refl)
    (takes_same (λ held. rw c.in-Listed.is refl)
    (still_refuses (λ held parts. gives (Listed parts)) c.from_residual.ensures.1 c.in_err-listed-in-Listed.ensures.took))
