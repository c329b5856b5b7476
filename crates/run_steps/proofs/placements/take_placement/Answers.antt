use Rattle.model_pipeline.specs.declared.options.ModelTarget.TheVariants.{Qubits}
use Rattle.run_steps.proofs.Lemmas.{gives, placing, refl, still_refuses, takes_given, takes_none, takes_same}
use Rattle.run_steps.proofs.placements.take_placement.Goals as goal

pub returns-in-Nodes : goal.returns-in-Nodes
unfolding placing
returns-in-Nodes g c = takes_none (rw c.in-Nodes.is refl) (λ held. rw c.in-Nodes.is refl)

pub returns-in_ok-site-in-Qubits : goal.returns-in_ok-site-in-Qubits
unfolding placing
returns-in_ok-site-in-Qubits g c =
    takes_same (λ held. rw c.in-Qubits.is refl) (takes_given Qubits refl c.in_ok-site-in-Qubits.ensures)

pub returns-in_err-site-in-Qubits : goal.returns-in_err-site-in-Qubits
unfolding placing
returns-in_err-site-in-Qubits g c =
    takes_same (λ held. rw c.in-Qubits.is refl)
    (still_refuses (λ held site. gives (Qubits site)) c.from_residual.ensures.1 c.in_err-site-in-Qubits.ensures)
