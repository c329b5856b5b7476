-- The model of a problem: by cases over what a command chooses, built of the images of the steps.
use Rattle.std.specs.Prelude.{◌≡◌, ℕ, pos, ◌+ℤ◌, ◌*ℤ◌, neg_ℤ, []}
use Rattle.bits_model.specs.declared.output.Kind.{Kind}
use Rattle.bits_model.specs.declared.output.Kind.TheVariants as kinds
use Rattle.base.specs.declared.costs.Figures.{Figures}
use Rattle.base.specs.declared.unit.UnitChoice.{UnitChoice}
use Rattle.base.specs.declared.unit.UnitChoice.TheVariants.{One, Reduce}
use Rattle.form_steps.specs.declared.scope.PenaltyScope.{PenaltyScope}
use Rattle.form_steps.specs.Relations.{Decoding, RelaxesBy, StaysAbove}
use Rattle.base.specs.Figures.{figures_after, figures_moved}
use Rattle.bits_model.specs.Output.{Written, IsWellFormed, form_of, read_off}
use Rattle.model_pipeline.specs.faithful.Bounds.{IsBounded}
use Rattle.model_pipeline.specs.faithful.Faithful.{HasUnit, scale_of}
use Rattle.model_text.specs.Rows.{FitsFields}
use Rattle.problem_form.specs.declared.limits.Choices.{Choices}
use Rattle.problem_form.specs.declared.limits.Normal.{Normal}
use Rattle.problem_form.specs.declared.limits.Normal.TheVariants.{Literal, Multilinear}
use Rattle.problem_form.specs.declared.limits.High.{High}
use Rattle.problem_form.specs.declared.limits.High.TheVariants.{Monomial, Rosenberg}
use Rattle.problem_form.specs.Problems.{ProblemContent}
use Rattle.problem_form.specs.Problems as problems
use Rattle.problem_form.specs.Limits.{upper}
use Rattle.command_words.specs.declared.commands.NodeModel.{NodeModel}
use Rattle.command_words.specs.declared.commands.NodeModel.TheVariants.{Qubo, Ising}
use Rattle.term_table.specs.Tables.{TableContent}
use Rattle.penalty_layer.specs.Penalty as penalty
use Rattle.normal_form.specs.Multilinear as multilinear
use Rattle.monomial_layer.specs.Monomials as monomials
use Rattle.rosenberg_layer.specs.Rosenberg as rosenberg
use Rattle.quad_form.specs.Quads.{QuadContent}
use Rattle.quad_form.specs.Quads as quads
use Rattle.quad_form.specs.Units as units
use Rattle.quad_form.specs.Flat as flat
use Rattle.ising_form.specs.Spins as spins
use Rattle.model_pipeline.specs.QubitModels.{chained_model}

-- ---- the steps

-- the terms of a problem in a normal form: over literals, or over variables alone
abbrev pub terms_of : Normal → ProblemContent → TableContent
terms_of Literal p = penalty.image p
terms_of Multilinear p = multilinear.image p

-- what stands for terms of degree 3 or more: each is replaced by itself, or pairs of literals are, one
-- after another
abbrev pub low_terms_of : High → TableContent → TableContent
low_terms_of Monomial t = monomials.image t
low_terms_of Rosenberg t = rosenberg.image t

-- the quadratic form of a problem, as a command chooses its steps
abbrev pub quad_of : Choices → ProblemContent → QuadContent
quad_of choices p = flat.image (low_terms_of choices.high (terms_of choices.normal p))

-- the same, by these steps
abbrev pub quad_by : Normal → High → ProblemContent → QuadContent
quad_by normal high p = quad_of (record { normal = normal; high = high }) p

-- how the energies of an Ising form stand for costs: four times those of its quadratic form do
abbrev pub ising_figures : Figures → Figures
ising_figures figures = figures_after figures (pos 4) (pos 0)

-- ---- what is written

-- the model of a quadratic form: as it is, or counted in its greatest unit without the constant
abbrev pub qubo_model : UnitChoice → QuadContent → ℕ → Figures → Written
qubo_model One q variables figures = quads.written_of q variables figures (pos 1)
qubo_model Reduce q variables figures =
    quads.written_of (units.reduced q) variables (figures_moved figures (neg_ℤ q.constant))
    (units.quad_unit q)

-- the model for a target: of the quadratic form itself, or of its Ising form
abbrev pub form_model : NodeModel → UnitChoice → QuadContent → ℕ → Figures → Written
form_model Qubo unit q variables figures = qubo_model unit q variables figures
form_model Ising unit q variables figures =
    chained_model unit (spins.image q) variables (ising_figures figures) kinds.Ising []

-- the model of a problem, of which so many variables are the source's own
abbrev pub model : Choices → NodeModel → UnitChoice → ℕ → ProblemContent → Written
model choices target unit variables p =
    form_model target unit (quad_of choices p) variables (penalty.figures p)

-- ---- what it promises of the problem

-- the kind of a target's models
abbrev pub kind_of : NodeModel → Kind
kind_of Qubo = kinds.Qubo
kind_of Ising = kinds.Ising

-- how a state of the model is read as an assignment of so many variables
abbrev pub decoding_to : ℕ → Written → Decoding
decoding_to variables m = record {
  source_width = variables;
  target_width = m.nodes;
  decoded = read_off m.kind variables m.chains;
}

-- a well-formed model for this target whose numbers fit their fields, all of them below 2 ^ 124 and
-- its energies below 2 ^ 121 in size, with so many variables, the stated figures and the unit that
-- was chosen, which relaxes the problem in this unit, in each scope that the problem's penalties allow,
-- and none of whose states lies below the whole cost that it decodes to
pub record IsModelOf (p : ProblemContent) (own : ℕ) (target : NodeModel) (choice : UnitChoice)
    (m : Written) : Type 0 where
  pub kind : m.kind ≡ kind_of target
  pub fits : FitsFields m
  pub bounded : IsBounded m
  pub well_formed : IsWellFormed m
  pub variables : m.variables ≡ own
  pub scale : m.figures.scale ≡ scale_of m.kind
  pub threshold : m.figures.threshold ≡ m.figures.scale *ℤ upper p +ℤ m.figures.offset
  pub unit : HasUnit choice m
  pub relaxes : (scope : PenaltyScope) → penalty.Allows scope p
      → RelaxesBy scope (problems.form_of p) (form_of m) (decoding_to p.variables m) m.unit m.figures
  pub stays : StaysAbove (problems.form_of p) (form_of m) (decoding_to p.variables m) m.unit m.figures
