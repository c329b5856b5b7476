-- The model of a problem on the qubits of a graph: what it is built of, and what it promises of the
-- problem.
use Rattle.std.specs.Prelude.{◌≡◌, ℕ, ◌+ℤ◌, ◌*ℤ◌, List, length}
use Rattle.base.specs.declared.costs.Figures.{Figures}
use Rattle.base.specs.declared.unit.UnitChoice.{UnitChoice}
use Rattle.bits_model.specs.declared.output.Graph.{Graph}
use Rattle.bits_model.specs.declared.output.Kind.TheVariants as kinds
use Rattle.form_steps.specs.declared.scope.PenaltyScope.{PenaltyScope}
use Rattle.bits_model.specs.Output.{Written, IsWellFormed, form_of}
use Rattle.model_pipeline.specs.faithful.Bounds.{IsBounded}
use Rattle.model_pipeline.specs.faithful.Faithful.{HasUnit, IsEmbedded, scale_of}
use Rattle.model_text.specs.Rows.{FitsFields}
use Rattle.problem_form.specs.declared.limits.Choices.{Choices}
use Rattle.problem_form.specs.Problems.{ProblemContent}
use Rattle.problem_form.specs.Problems as problems
use Rattle.problem_form.specs.Limits.{upper}
use Rattle.command_words.specs.declared.commands.ChainStrength.{ChainStrength}
use Rattle.penalty_layer.specs.Penalty as penalty
use Rattle.ising_form.specs.Isings.{IsingContent}
use Rattle.ising_form.specs.Spins as spins
use Rattle.embedding_check.specs.Embeddings.{Embedding}
use Rattle.embedding_check.specs.Checked.{IsChecked}
use Rattle.hardware.specs.Fabrics.{Fabric}
use Rattle.model_pipeline.specs.declared.site.Site.{Site}
use Rattle.model_pipeline.specs.Models.{quad_of, decoding_to}
use Rattle.model_pipeline.specs.Sites.{chains_of, fabric_in, graph_in}
use Rattle.model_pipeline.specs.QubitModels.{qubit_model}
use Rattle.model_pipeline.specs.QubitStanding.{demand_of, StandsBy, IsQubitModelOf, StaysBy}

-- the Ising form of a problem, as a command chooses its steps
abbrev pub ising_of : Choices → ProblemContent → IsingContent
ising_of choices p = spins.image (quad_of choices p)

-- a well-formed model on this graph whose numbers fit their fields, all of them below 2 ^ 124 and
-- its energies below 2 ^ 121 in size, with so many variables, the stated figures, the unit that was
-- chosen and the chains of the map, which stands for the problem in this unit as its ties and the
-- problem's penalties allow
pub record IsGraphModelOf (p : ProblemContent) (own : ℕ) (choice : UnitChoice) (ties : ChainStrength)
    (graph : Graph) (fabric : Fabric) (map : List (List ℕ)) (m : Written) : Type 0 where
  pub kind : m.kind ≡ kinds.Qubits graph
  pub fits : FitsFields m
  pub bounded : IsBounded m
  pub well_formed : IsWellFormed m
  pub variables : m.variables ≡ own
  pub scale : m.figures.scale ≡ scale_of m.kind
  pub threshold : m.figures.threshold ≡ m.figures.scale *ℤ upper p +ℤ m.figures.offset
  pub unit : HasUnit choice m
  pub embedded : IsEmbedded (demand_of choice fabric map) m
  pub stands : (scope : PenaltyScope) → penalty.Allows scope p
      → StandsBy ties scope (problems.form_of p) (form_of m) (decoding_to p.variables m) m.unit
      m.figures
  pub stays : StaysBy ties (problems.form_of p) (form_of m) (decoding_to p.variables m) m.unit m.figures

-- the chains that a site has for the Ising form of a problem
abbrev pub site_chains : Site → Choices → ProblemContent → List (List ℕ)
site_chains site choices p = chains_of site.qubits site.chain_source (length (ising_of choices p).fields)

-- the model of an Ising form at a site, as a check embeds it on the site's chains; so many of its
-- variables are the source's own
abbrev pub IsFormAt : Site → UnitChoice → IsingContent → ℕ → Figures → Written → Type 0
IsFormAt site unit form own figures m =
    (e : Embedding) × IsChecked (fabric_in site.qubits).joined (fabric_in site.qubits).qubits form
    (chains_of site.qubits site.chain_source (length form.fields)) e
    × (m ≡ qubit_model unit site.ties e own figures (kinds.Qubits (graph_in site.qubits)))

-- the same, as a model that stands for the form as the site's ties allow
abbrev pub StandsForForm : Site → UnitChoice → IsingContent → ℕ → Figures → Written → Type 0
StandsForForm site unit form own figures m =
    IsQubitModelOf form figures own unit site.ties (graph_in site.qubits) (fabric_in site.qubits)
    (chains_of site.qubits site.chain_source (length form.fields)) m

-- a model at a site that stands for the problem
abbrev pub StandsAt : Site → Choices → UnitChoice → ℕ → ProblemContent → Written → Type 0
StandsAt site choices unit variables p m =
    IsGraphModelOf p variables unit site.ties (graph_in site.qubits) (fabric_in site.qubits)
    (site_chains site choices p) m
