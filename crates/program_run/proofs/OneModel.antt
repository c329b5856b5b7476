-- A plan makes one model.
use Rattle.program_run.proofs.Common.{nat_tests, arith, ◌≡◌, ℕ, sym, ap, ◌∙◌, UnitChoice, Written, Choices, ProblemContent, Embedding, checked_unique, ising_figures, ising_of, site_chains, qubit_model, graph_in, fabric_in, ModelTarget, IsModelOn, PlansMakeOneModel}
use Rattle.bits_model.specs.declared.output.Kind.TheVariants as kinds
use Rattle.penalty_layer.specs.Penalty as penalty
use Rattle.model_pipeline.specs.declared.options.ModelTarget.TheVariants.{Nodes, Qubits}

one_model_on : (base : ModelTarget) (choices : Choices) (unit : UnitChoice) (own : ℕ)
    (p : ProblemContent) (m n : Written) → IsModelOn base choices unit own p m
    → IsModelOn base choices unit own p n → m ≡ n
one_model_on (Nodes target) choices unit own p m n first second = first ∙ sym second
one_model_on (Qubits site) choices unit own p m n first second =
    let fabric = fabric_in site.qubits in
    let model : Embedding → Written =
    λ e. qubit_model unit site.ties e own (ising_figures (penalty.figures p))
    (kinds.Qubits (graph_in site.qubits)) in
    let same : first.0 ≡ second.0 =
    checked_unique fabric.joined fabric.qubits (ising_of choices p) (site_chains site choices p)
    first.0 second.0 first.1 second.1 in
    first.2 ∙ ap model same ∙ sym second.2

pub one_model : PlansMakeOneModel
one_model plan m n first second = grind (arith, nat_tests, one_model_on)
