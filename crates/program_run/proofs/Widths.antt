-- How many variables and nodes the model of a plan has.
use Rattle.program_run.proofs.Common.{nat_tests, ◌≡◌, ℕ, ◌+◌, ◌≤◌, length, arith, length-map, length-take-le, length-map-range_with_len, Figures, UnitChoice, Written, Choices, ProblemContent, auxiliary_bits, QuadContent, IsingContent, length-fields, NodeModel, form_model, nodes_are_few, form_nodes, Qubits, ChainSource, chains_of, CanStandAt, ising_of, ModelTarget, Plan, CanStandOn, CanStand, IsModelOn, IsModelBy, StandsOn, Stands}
use Rattle.ising_form.specs.Spins as spins

model_nodes : (target : NodeModel) (unit : UnitChoice) (q : QuadContent) (variables : ℕ)
    (figures : Figures)
    → (form_model target unit q variables figures).nodes ≡ length (spins.image q).fields
model_nodes target unit q variables figures = grind (arith, nat_tests, length-fields, length-map)

-- there is a chain for each node
chains_are_nodes : (qubits : Qubits) (chain_source : ChainSource) (form : IsingContent)
    → CanStandAt qubits chain_source form
    → length (chains_of qubits chain_source (length form.fields)) ≡ length form.fields
chains_are_nodes qubits chain_source form can =
    grind (arith, nat_tests, length-map-range_with_len, length-map, length-take-le)

-- the model has the nodes of its form
nodes_are_its : (base : ModelTarget) (choices : Choices) (unit : UnitChoice) (own : ℕ)
    (p : ProblemContent) (m : Written) → CanStandOn base (ising_of choices p)
    → IsModelOn base choices unit own p m → StandsOn base choices unit own p m
    → form_nodes m ≡ length (ising_of choices p).fields
nodes_are_its base choices unit own p m can by stands =
    grind (arith, nat_tests, model_nodes, chains_are_nodes)

-- its nodes are at most the problem's variables and the auxiliary bits
pub has_few_nodes : (plan : Plan) (m : Written) → CanStand plan → IsModelBy plan m → Stands plan m
    → form_nodes m
    ≤ plan.read.problem.variables + auxiliary_bits plan.options.choices.normal plan.read.problem
has_few_nodes plan m can by stands =
    grind (arith, nat_tests, nodes_are_its, length-fields, nodes_are_few)
