-- What a model stands on, what is asked of it there, which model of a problem it is, and whether it can
-- stand there.
use Rattle.std.specs.Prelude.{◌≡◌, ℕ, ⊤, [], false}
use Rattle.base.specs.declared.unit.UnitChoice.{UnitChoice}
use Rattle.bits_model.specs.declared.output.Kind.{Kind}
use Rattle.bits_model.specs.declared.output.Kind.TheVariants as kinds
use Rattle.bits_model.specs.Output.{Written}
use Rattle.problem_form.specs.declared.limits.Choices.{Choices}
use Rattle.problem_form.specs.Problems.{ProblemContent}
use Rattle.ising_form.specs.Isings.{IsingContent}
use Rattle.chain_map.specs.declared.faults.EmbedFault.{EmbedFault}
use Rattle.command_words.specs.declared.commands.ChainStrength.{ChainStrength}
use Rattle.command_words.specs.declared.commands.ChainStrength.TheVariants.{Choi}
use Rattle.penalty_layer.specs.Penalty as penalty
use Rattle.model_pipeline.specs.faithful.Faithful.{Demand}
use Rattle.model_pipeline.specs.Models.{form_model, ising_figures, quad_of, IsModelOf}
use Rattle.model_pipeline.specs.Models as models
use Rattle.model_pipeline.specs.GraphModels.{ising_of, IsFormAt, StandsAt}
use Rattle.model_pipeline.specs.Sites.{graph_in, fabric_in, chains_of, CanStandBy, IsFaultBy}
use Rattle.model_pipeline.specs.declared.options.ModelTarget.{ModelTarget}
use Rattle.model_pipeline.specs.declared.options.ModelTarget.TheVariants.{Nodes, Qubits}

-- ---- what is asked of it

-- the kind of the models that stand there
abbrev pub kind_of : ModelTarget → Kind
kind_of (Nodes target) = models.kind_of target
kind_of (Qubits site) = kinds.Qubits (graph_in site.qubits)

-- how chains are tied there; without chains every state stands for what it is read as, as with ties
-- that no state should break
abbrev pub ties_of : ModelTarget → ChainStrength
ties_of (Nodes target) = Choi
ties_of (Qubits site) = site.ties

-- what is asked of the model of a form with so many nodes: its unit and, on a graph, its chains,
-- which qubits there are and which of them are joined
abbrev pub demand_of : UnitChoice → ModelTarget → ℕ → Demand
demand_of unit (Nodes target) nodes =
    record { unit = unit; chains = []; exists = λ q. false; joined = λ p q. false }
demand_of unit (Qubits site) nodes = record {
  unit = unit;
  chains = chains_of site.qubits site.chain_source nodes;
  exists = (fabric_in site.qubits).exists;
  joined = (fabric_in site.qubits).joined;
}

-- ---- which model it is

-- the model of a problem with so many variables of its own: that of the problem or, on a graph, of
-- its Ising form on the chains, as a check puts it there
abbrev pub IsModelOn : ModelTarget → Choices → UnitChoice → ℕ → ProblemContent → Written → Type 0
IsModelOn (Nodes target) choices unit variables p m =
    m ≡ form_model target unit (quad_of choices p) variables (penalty.figures p)
IsModelOn (Qubits site) choices unit variables p m =
    IsFormAt site unit (ising_of choices p) variables (ising_figures (penalty.figures p)) m

-- the model stands for the problem
abbrev pub StandsOn : ModelTarget → Choices → UnitChoice → ℕ → ProblemContent → Written → Type 0
StandsOn (Nodes target) choices unit variables p m = IsModelOf p variables target unit m
StandsOn (Qubits site) choices unit variables p m = StandsAt site choices unit variables p m

-- ---- whether it can be made

-- on a graph the form has a place
abbrev pub CanStandOn : ModelTarget → IsingContent → Type 0
CanStandOn (Nodes target) form = ⊤
CanStandOn (Qubits site) form = CanStandBy site form

-- why the form has none
abbrev pub IsFaultOn : ModelTarget → IsingContent → EmbedFault → Type 0
IsFaultOn (Nodes target) form fault = ⊥
IsFaultOn (Qubits site) form fault = IsFaultBy site form fault
