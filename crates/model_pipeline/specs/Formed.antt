-- Forms that stand for a problem: what the steps to its model rest on.
use Rattle.std.specs.Prelude.{◌≡◌, ◌≤◌, ◌<◌, ◌+◌, ◌*◌, ◌^◌, ℤ, pos, ◌≤ℤ◌, Bool, List, length, take, unsigned_abs}
use Rattle.base.specs.declared.costs.Figures.{Figures}
use Rattle.base.specs.Costs.{Form}
use Rattle.form_steps.specs.declared.scope.PenaltyScope.{PenaltyScope}
use Rattle.form_steps.specs.Relations.{Decoding, RelaxesBy, StaysAbove}
use Rattle.problem_form.specs.Problems.{ProblemContent, form_of}
use Rattle.problem_form.specs.Limits.{upper}
use Rattle.term_table.specs.Terms.{terms_total}
use Rattle.term_table.specs.Tables.{TableContent, AreAdditions, table_size}
use Rattle.penalty_layer.specs.Penalty as penalty
use Rattle.quad_form.specs.Quads.{QuadContent, IsQuad, quad_size, quad_total}
use Rattle.quad_form.specs.Quads as quads
use Rattle.ising_form.specs.Isings.{IsingContent, IsIsing, ising_size, ising_total}
use Rattle.ising_form.specs.Isings as isings
use Rattle.quadratization.specs.Apart.{table_of}
use Rattle.quadratization.specs.Held.{HeldContent, AreHeld}
use Rattle.model_pipeline.specs.Models.{ising_figures}
use Rattle.model_pipeline.specs.QubitStanding.{AreSmall}

-- additions whose sums are a table, so small that each way on to a quadratic form has room for them
pub record AddTo (t u : TableContent) : Type 0 where
  pub additions : AreAdditions u
  pub table : table_of u ≡ t
  pub total : terms_total u.terms + 1 ≤ 2 ^ 72
  pub size : table_size t ≤ 2 ^ 26

-- terms that are held in place of a table
abbrev pub AreHeldFor : TableContent → HeldContent → Type 0
AreHeldFor t h = (u : TableContent) × AddTo t u × AreHeld u h

-- a form that relaxes a problem in this unit, in each scope that the problem's penalties allow, none
-- of whose states lies below the whole cost that it decodes to, and whose states decode to their
-- first bits
pub record Stands (p : ProblemContent) (f : Form) (d : Decoding) (u : ℤ) (n : Figures) : Type 0 where
  pub unit : pos 1 ≤ℤ u
  pub positive : pos 1 ≤ℤ n.scale
  pub relaxes : (scope : PenaltyScope) → penalty.Allows scope p → RelaxesBy scope (form_of p) f d u n
  pub stays : StaysAbove (form_of p) f d u n
  pub decodes : (y : List Bool) → d.decoded y ≡ take p.variables y

-- a quadratic form with room for its Ising form
pub record HasRoom (q : QuadContent) : Type 0 where
  pub quad : IsQuad q
  pub total : (quad_total q + 1) * 2 ^ 2 ≤ 2 ^ 124

-- figures with room for those of an Ising form, four times as great: the scale is 1 or more, and each
-- is below 2 ^ 122 in size
pub record HaveRoom (n : Figures) : Type 0 where
  pub scale_low : pos 1 ≤ℤ n.scale
  pub small : AreSmall n

-- a quadratic form that relaxes a problem with the problem's figures, and has room for the steps to
-- a model: four times its total, and on chains 2 ^ 21 times that, stay below 2 ^ 121
pub record IsQuadratized (p : ProblemContent) (q : QuadContent) (n : Figures) : Type 0 where
  pub figures : n ≡ penalty.figures p
  pub threshold : unsigned_abs (upper p) ≤ 2 ^ 64
  pub enough : p.variables ≤ length q.diagonal
  pub total : (quad_total q + 1) * 2 ^ 2 ≤ 2 ^ 124
  pub size : quad_size q * 2 ^ 1 ≤ 2 ^ 32
  pub total_low : quad_total q + 1 ≤ 2 ^ 98
  pub size_low : quad_size q ≤ 2 ^ 29
  pub stands : (d : Decoding) × Stands p (quads.form_of q) d (pos 1) (penalty.figures p)

-- an Ising form that relaxes a problem with four times the problem's figures, and has room for the
-- steps to a model on chains
pub record IsIsingOf (p : ProblemContent) (f : IsingContent) (n : Figures) : Type 0 where
  pub figures : n ≡ ising_figures (penalty.figures p)
  pub kept : IsIsing f
  pub enough : p.variables ≤ length f.fields
  pub total : (ising_total f + 1) * 2 ^ 21 ≤ 2 ^ 121
  pub size : (ising_size f + 4 * 2 ^ 20) * 2 ^ 1 ≤ 2 ^ 32
  pub scale_low : pos 1 ≤ℤ n.scale
  pub offset_low : unsigned_abs n.offset < 2 ^ 122
  pub threshold_low : unsigned_abs n.threshold < 2 ^ 122
  pub stands : (d : Decoding) × Stands p (isings.form_of f) d (pos 1) n
