-- The extension of an assignment: the bits of all nodes that the steps add to a problem, and the
-- state of a written model.
use Rattle.std.specs.Prelude.{◌≡◌, ◌⊎◌, ⊤, ℕ, ◌<◌, ◌≤◌, ℤ, ◌+ℤ◌, ◌*ℤ◌, ◌≤ℤ◌, Bool, List, length, take, All}
use Rattle.base.specs.declared.costs.Cost.TheVariants.{Whole}
use Rattle.form_steps.specs.declared.layer.BitsLink.{BitsLink}
use Rattle.bits_model.specs.declared.output.Kind.{Kind}
use Rattle.bits_model.specs.declared.output.Kind.TheVariants.{Qubo, Ising}
use Rattle.bits_model.specs.declared.output.Kind.TheVariants as kinds
use Rattle.base.specs.declared.unit.UnitChoice.{UnitChoice}
use Rattle.base.specs.Costs.{Form, energy}
use Rattle.form_steps.specs.Links.{first_bits}
use Rattle.bits_model.specs.Output.{Written, decoding_of, form_of}
use Rattle.form_steps.specs.Relations.{ExtendsLeast}
use Rattle.problem_form.specs.declared.limits.Choices.{Choices}
use Rattle.problem_form.specs.declared.limits.Normal.{Normal}
use Rattle.problem_form.specs.declared.limits.High.{High}
use Rattle.problem_form.specs.declared.limits.High.TheVariants.{Monomial, Rosenberg}
use Rattle.problem_form.specs.Problems.{ProblemContent}
use Rattle.problem_form.specs.Problems as problems
use Rattle.command_words.specs.declared.commands.NodeModel.{NodeModel}
use Rattle.command_words.specs.declared.commands.ChainStrength.{ChainStrength}
use Rattle.term_table.specs.Tables.{TableContent}
use Rattle.penalty_layer.specs.Penalty as penalty
use Rattle.monomial_layer.specs.Monomials as monomials
use Rattle.rosenberg_layer.specs.Rosenberg as rosenberg
use Rattle.quad_form.specs.Quads as quads
use Rattle.chain_layer.specs.Image.{on_chains}
use Rattle.embedding_check.specs.Fabrics.{IsValidOn}
use Rattle.model_pipeline.specs.declared.site.Qubits.{Qubits}
use Rattle.model_pipeline.specs.declared.site.ChainSource.TheVariants.{Map}
use Rattle.model_pipeline.specs.Models.{terms_of, quad_by, ising_figures, model, decoding_to}
use Rattle.model_pipeline.specs.Sites.{fabric_in}
use Rattle.model_pipeline.specs.GraphModels.{ising_of, IsFormAt}

-- ---- the bits

-- what stands for terms of degree 3 or more, for an assignment: the bits of the new nodes after it
abbrev pub low_extension : High → TableContent → List Bool → List Bool
low_extension Monomial t x = monomials.extension x t.terms
low_extension Rosenberg t x = rosenberg.extension x t

-- an assignment of a problem's variables, and the bits of all nodes that the steps add
abbrev pub extension_of : Choices → ProblemContent → List Bool → List Bool
extension_of choices p x =
    low_extension choices.high (terms_of choices.normal p) (penalty.extension p x)

-- the same, by these steps
abbrev pub extension_by : Normal → High → ProblemContent → List Bool → List Bool
extension_by normal high p x = extension_of (record { normal = normal; high = high }) p x

-- ---- what it promises

-- the widths of an assignment and of a state of the quadratic form
abbrev pub link_by : Normal → High → ProblemContent → BitsLink
link_by normal high p = record {
  source_width = p.variables;
  target_width = length (quad_by normal high p).diagonal;
}

-- the state's first bits are the assignment, no state of the quadratic form with these first bits has
-- a lesser energy, and where the assignment's cost is whole it is the state's energy
abbrev pub ExtendsLeastBy : Normal → High → ProblemContent → List Bool → List Bool → Type 0
ExtendsLeastBy normal high p x y =
    ExtendsLeast (problems.form_of p) (quads.form_of (quad_by normal high p))
    (first_bits (link_by normal high p)) (penalty.figures p) x y

-- the same, for the steps that a command chooses
abbrev pub IsLeastExtension : Choices → ProblemContent → List Bool → List Bool → Type 0
IsLeastExtension choices p x y = ExtendsLeastBy choices.normal choices.high p x y

-- ---- the state of a written model

-- the bits of a model's nodes, from those of its form's nodes: the same, or on a graph the bit of
-- each qubit
abbrev pub state_by : Kind → Written → List Bool → List Bool
state_by (kinds.Qubits graph) m x = on_chains m.chains m.nodes x
state_by kind m x = x

-- the same, by the model's own kind
abbrev pub state_on : Written → List Bool → List Bool
state_on m x = state_by m.kind m x

-- a state of the form's nodes for which there are chains: on a graph one for each node, of qubits
-- that exist
abbrev pub FitsNodes : Kind → Written → List Bool → Type 0
FitsNodes Qubo m x = ⊤
FitsNodes Ising m x = ⊤
FitsNodes (kinds.Qubits graph) m x =
    (length x ≡ length m.chains) × All (λ chain. All (λ q. q < m.nodes) chain) m.chains

-- the same, by the model's own kind
abbrev pub FitsState : Written → List Bool → Type 0
FitsState m x = FitsNodes m.kind m x

-- how many nodes a model's form has: as many as the model, or on a graph one for each chain
abbrev pub form_nodes_by : Kind → Written → ℕ
form_nodes_by (kinds.Qubits graph) m = length m.chains
form_nodes_by kind m = m.nodes

-- the same, by the model's own kind
abbrev pub form_nodes : Written → ℕ
form_nodes m = form_nodes_by m.kind m

-- ---- which models are meant

-- the model of a problem, with so many variables, on the nodes of its form, for some target and in
-- some unit
abbrev pub IsMadeOnNodes : ℕ → Choices → ProblemContent → Written → Type 0
IsMadeOnNodes own choices p m =
    (target : NodeModel) × (unit : UnitChoice) × (m ≡ model choices target unit own p)

-- the model of a problem, with so many variables, on the chains of a valid map that are tied so, on
-- some qubits and in some unit
abbrev pub IsMadeOnChains : ChainStrength → ℕ → Choices → ProblemContent → Written → Type 0
IsMadeOnChains ties own choices p m =
    (unit : UnitChoice) × (qubits : Qubits) × (map : List (List ℕ))
    × IsValidOn (fabric_in qubits) (ising_of choices p) map
    × IsFormAt (record { qubits = qubits; chain_source = Map map; ties = ties }) unit (ising_of choices p)
    own (ising_figures (penalty.figures p)) m

-- the model of a problem, with so many of the problem's variables; where it stands on chains, they
-- are tied so
abbrev pub IsMadeOf : ChainStrength → ℕ → Choices → ProblemContent → Written → Type 0
IsMadeOf ties own choices p m =
    (own ≤ p.variables) × (IsMadeOnNodes own choices p m ⊎ IsMadeOnChains ties own choices p m)

-- the model of a problem, with some of its variables, tied in some way
abbrev pub IsMade : Choices → ProblemContent → Written → Type 0
IsMade choices p m = (ties : ChainStrength) × (own : ℕ) × IsMadeOf ties own choices p m

-- ---- what is promised of it

-- the state decodes to the assignment of so many variables, and where its cost is whole, unit times
-- the energy is scale times that cost, and offset
pub record ExtendsTo (variables : ℕ) (f : Form) (m : Written) (x y : List Bool) : Type 0 where
  pub width : length y ≡ m.nodes
  pub decodes : (decoding_to variables m).decoded y ≡ x
  pub scaled : (v : ℤ) → f.cost x ≡ Whole v
      → m.unit *ℤ energy (form_of m) y ≡ m.figures.scale *ℤ v +ℤ m.figures.offset

-- no state that decodes to the assignment of so many variables has a lesser energy
abbrev pub IsLeastTo : ℕ → Written → List Bool → List Bool → Type 0
IsLeastTo variables m x y =
    (y' : List Bool) → length y' ≡ m.nodes → (decoding_to variables m).decoded y' ≡ x
    → energy (form_of m) y ≤ℤ energy (form_of m) y'

-- the state decodes to the assignment, no state that does has a lesser energy, and where the
-- assignment's cost is whole, unit times the energy is scale times that cost, and offset
pub record Extends (f : Form) (m : Written) (x y : List Bool) : Type 0 where
  pub width : length y ≡ m.nodes
  pub decodes : (decoding_of m).decoded y ≡ x
  pub scaled : (v : ℤ) → f.cost x ≡ Whole v
      → m.unit *ℤ energy (form_of m) y ≡ m.figures.scale *ℤ v +ℤ m.figures.offset
  pub least : (y' : List Bool) → length y' ≡ m.nodes → (decoding_of m).decoded y' ≡ x
      → energy (form_of m) y ≤ℤ energy (form_of m) y'

-- ---- the laws

-- what a model decodes a state to are the first bits of what it decodes the state to with more
-- variables
abbrev pub FirstAreDecoded : Type 0
FirstAreDecoded = (m : Written) (variables : ℕ) (y : List Bool) → m.variables ≤ variables
    → (decoding_of m).decoded y ≡ take m.variables ((decoding_to variables m).decoded y)

-- a least state that extends an assignment of all variables of the model extends it for the model
abbrev pub LeastExtends : Type 0
LeastExtends = (f : Form) (m : Written) (variables : ℕ) (x y : List Bool) → m.variables ≡ variables
    → ExtendsTo variables f m x y → IsLeastTo variables m x y → Extends f m x y
