-- What a model on the qubits of a graph promises of the Ising form that it stands for.
use Rattle.std.specs.Prelude.{◌≡◌, ⊤, ℕ, ℤ, ◌+◌, ◌*◌, ◌^◌, ◌≤◌, ◌<◌, pos, ◌-ℤ◌, unsigned_abs, Bool, List, length, take}
use Rattle.base.specs.declared.costs.Figures.{Figures}
use Rattle.base.specs.declared.unit.UnitChoice.{UnitChoice}
use Rattle.base.specs.Costs.{Form}
use Rattle.form_steps.specs.Relations.{Decoding, RelaxesBy, StaysAbove}
use Rattle.bits_model.specs.declared.output.Graph.{Graph}
use Rattle.bits_model.specs.declared.output.Kind.TheVariants as kinds
use Rattle.form_steps.specs.declared.scope.PenaltyScope.{PenaltyScope}
use Rattle.bits_model.specs.Output.{Written, IsWellFormed, form_of}
use Rattle.model_pipeline.specs.faithful.AtLeast.{StandsAtLeast}
use Rattle.model_pipeline.specs.faithful.Bounds.{IsBounded}
use Rattle.model_pipeline.specs.faithful.Faithful.{Demand, HasUnit, IsEmbedded}
use Rattle.model_text.specs.Rows.{FitsFields}
use Rattle.command_words.specs.declared.commands.ChainStrength.{ChainStrength}
use Rattle.command_words.specs.declared.commands.ChainStrength.TheVariants.{Choi, Cut}
use Rattle.ising_form.specs.Isings.{IsingContent, ising_total}
use Rattle.ising_form.specs.Isings as isings
use Rattle.hardware.specs.Fabrics.{Fabric}
use Rattle.model_pipeline.specs.Models.{decoding_to}

-- what is asked of a model on a graph: its unit, its chains, which qubits there are and which of
-- them are joined
abbrev pub demand_of : UnitChoice → Fabric → List (List ℕ) → Demand
demand_of choice fabric map = record {
  unit = choice;
  chains = map;
  exists = fabric.exists;
  joined = fabric.joined;
}

-- ---- how a model stands for a source

-- every state stands for what it is read as, as the scope of penalties says; where ties are as strong
-- as their lighter sides ask, the least states do
abbrev pub StandsBy : ChainStrength → PenaltyScope → Form → Form → Decoding → ℤ → Figures → Type 0
StandsBy Choi scope f g d u n = RelaxesBy scope f g d u n
StandsBy Cut scope f g d u n = StandsAtLeast f g d u n

-- no state lies below the whole cost that it is read as, unless ties are only as strong as their
-- lighter sides ask
abbrev pub StaysBy : ChainStrength → Form → Form → Decoding → ℤ → Figures → Type 0
StaysBy Choi f g d u n = StaysAbove f g d u n
StaysBy Cut f g d u n = ⊤

-- however the ties and the penalties are, the least states stand for the least assignments
abbrev pub LeastStandBy : Type 0
LeastStandBy = (ties : ChainStrength) (scope : PenaltyScope) (f g : Form) (d : Decoding) (u : ℤ)
    (n : Figures) → StandsBy ties scope f g d u n → StandsAtLeast f g d u n

-- whatever source the Ising form relaxes, with these figures and by its first bits, the model
-- stands for too, in its own unit, with its own figures and by its chains
abbrev pub StandsForWhat : ChainStrength → IsingContent → Figures → Written → Type 0
StandsForWhat ties f n m =
    (scope : PenaltyScope) (source : Form) (d : Decoding) (variables : ℕ)
    → variables ≤ length f.fields → ((y : List Bool) → d.decoded y ≡ take variables y)
    → source.bits ≡ variables → RelaxesBy scope source (isings.form_of f) d (pos 1) n
    → StandsBy ties scope source (form_of m) (decoding_to variables m) m.unit m.figures

-- and whatever source no state of the form lies below, none of the model does
abbrev pub StaysForWhat : ChainStrength → IsingContent → Figures → Written → Type 0
StaysForWhat ties f n m =
    (source : Form) (d : Decoding) (variables : ℕ) → variables ≤ length f.fields
    → ((y : List Bool) → d.decoded y ≡ take variables y) → source.bits ≡ variables
    → StaysAbove source (isings.form_of f) d (pos 1) n
    → StaysBy ties source (form_of m) (decoding_to variables m) m.unit m.figures

-- ---- its size

-- the figures are below 2 ^ 122 in size
pub record AreSmall (n : Figures) : Type 0 where
  pub scale : unsigned_abs n.scale < 2 ^ 122
  pub offset : unsigned_abs n.offset < 2 ^ 122
  pub threshold : unsigned_abs n.threshold < 2 ^ 122

-- the form has room for its chains below 2 ^ 121, and its figures are small
pub record HasChainRoom (f : IsingContent) (n : Figures) : Type 0 where
  pub total : (ising_total f + 1) * 2 ^ 21 ≤ 2 ^ 121
  pub figures : AreSmall n

-- ---- the promise

-- a well-formed model on this graph whose numbers fit their fields, with so many variables, figures
-- of the form's scale whose threshold lies as far above their offset as the form's, the unit that
-- was chosen and the chains of the map, which stands for what the form relaxes, and is bounded where
-- the form has room
pub record IsQubitModelOf (f : IsingContent) (n : Figures) (own : ℕ) (choice : UnitChoice)
    (ties : ChainStrength) (graph : Graph) (fabric : Fabric) (map : List (List ℕ)) (m : Written)
    : Type 0 where
  pub kind : m.kind ≡ kinds.Qubits graph
  pub fits : FitsFields m
  pub well_formed : IsWellFormed m
  pub variables : m.variables ≡ own
  pub scale : m.figures.scale ≡ n.scale
  pub threshold : m.figures.threshold -ℤ m.figures.offset ≡ n.threshold -ℤ n.offset
  pub unit : HasUnit choice m
  pub embedded : IsEmbedded (demand_of choice fabric map) m
  pub stands : StandsForWhat ties f n m
  pub stays : StaysForWhat ties f n m
  pub bounded : HasChainRoom f n → IsBounded m
