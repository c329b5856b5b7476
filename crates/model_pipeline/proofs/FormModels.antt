-- Numbers that are small where others are: moved ones, and the unit of a form.
use Rattle.model_pipeline.proofs.Common.{◌≤◌, inl, inr, ℕ, ◌+◌, ◌*◌, ◌++◌, ℤ, pos, ◌+ℤ◌, ◌≤ℤ◌, List, ap, arith, unsigned_abs, neg_ℤ, sum_by, mul-le-mul_right, ints, sum_by-append, Entry, weight_total, node_entries, weights_of, sizes_of_weights, greatest_within, unit_of, greatest_divides, none_or_within, unit_of_nothing, AreBounded, Figures, FitsFigures, FitsSigned, figures_moved, fits_signed_from_abs, to_z-of_z, w128, ◌-ℤ◌, ◌<◌, ◌^◌, ◌≡◌, ◌⊎◌, ◌*ℤ◌, [], length, refl, length-map, All-nil, UnitChoice, Form, Decoding, Reduces, HasUnit, reduces_after_by, reduces_stays_above, ProblemContent, form_of, upper, QuadContent, IsQuad, quad_total, counted_in, quad_unit, IsingContent, IsIsing, ising_total, ising_unit, IsModelOf, qubo_model, chained_model, Stands, One, Reduce, Qubo, Ising, of_z, to_z}
use Rattle.bits_model.specs.declared.output.Kind.TheVariants as kinds
use Rattle.quad_form.specs.Quads as quads
use Rattle.quad_form.specs.Units as units
use Rattle.quad_form.proofs.ReducedForms as reduced_quads
use Rattle.quad_form.proofs.WrittenModels as written_quads
use Rattle.ising_form.specs.Isings as isings
use Rattle.ising_form.specs.Outputs as outputs
use Rattle.ising_form.specs.Reduction as reduction
use Rattle.ising_form.proofs.ReducedForms as reduced_isings
use Rattle.ising_form.proofs.WrittenModels as written_isings

pub sum_low : (a b : ℤ) (most more : ℕ) → unsigned_abs a ≤ most → unsigned_abs b ≤ more
    → unsigned_abs (a +ℤ b) ≤ most + more
sum_low a b most more h k = omega (arith, ints)

pub minus_low : (c : ℤ) (most : ℕ) → unsigned_abs c ≤ most → unsigned_abs (neg_ℤ c) ≤ most
minus_low c most h = omega (arith, ints)

-- a number is no greater than some times itself
pub once_low : (u : ℤ) (a b : ℕ) → pos 1 ≤ℤ u → unsigned_abs u * a ≤ b → a ≤ b
once_low u a b one h =
    let low : 1 ≤ unsigned_abs u = omega (arith, ints, one) in
    omega (arith, mul-le-mul_right a low, h)

-- the greatest unit is no greater than the weights, or 1
pub unit_low : (ws : List ℤ) (cs : List Entry) (most : ℕ)
    → weight_total (node_entries 0 ws ++ cs) ≤ most → unsigned_abs (unit_of (weights_of ws cs)) ≤ most + 1
unit_low ws cs most h =
    let all = weights_of ws cs in
    let sum = sum_by unsigned_abs all in
    let whole = sum_by-append (λ (e : Entry). unsigned_abs e.weight) (node_entries 0 ws) cs in
    elim (none_or_within (greatest_within sum all) all (greatest_divides sum all)) [
      | inl none ↦ omega (arith, ap unsigned_abs (unit_of_nothing all none))
      | inr low ↦ omega (arith, low, sizes_of_weights ws cs, whole)
    ]

-- ---- figures

-- figures of the scale a, whose threshold lies t above their offset, none of them greater than a
-- number
pub record AreFigures (a t : ℤ) (n : Figures) (most : ℕ) : Type 0 where
  pub scale : n.scale ≡ a
  pub threshold : n.threshold -ℤ n.offset ≡ t
  pub offset_low : unsigned_abs n.offset ≤ most
  pub threshold_low : unsigned_abs n.threshold ≤ most

module _ (a t : ℤ) (n : Figures) (most : ℕ) (are : AreFigures a t n most) where
  -- the figures where every energy is moved
  pub figures_are_moved : (more : ℕ) (b : ℤ) → unsigned_abs b ≤ more
      → AreFigures a t (figures_moved n b) (most + more)
  figures_are_moved more b small = record {
    scale = are.scale;
    threshold = omega (arith, ints, are.threshold);
    offset_low = sum_low n.offset b most more are.offset_low small;
    threshold_low = sum_low n.threshold b most more are.threshold_low small;
  }

  -- no figure is greater than a greater number
  pub figures_within : (more : ℕ) → most ≤ more → AreFigures a t n more
  figures_within more h = record {
    scale = are.scale;
    threshold = are.threshold;
    offset_low = omega (arith, are.offset_low);
    threshold_low = omega (arith, are.threshold_low);
  }

  -- figures fit their fields
  pub figures_fit : unsigned_abs a ≤ 2 ^ 127 → most ≤ 2 ^ 127 → FitsFigures n
  figures_fit low fits = record {
    scale = omega (arith, ap unsigned_abs are.scale);
    offset = omega (arith, are.offset_low);
    threshold = omega (arith, are.threshold_low);
  }

  -- figures are bounded
  pub figures_bounded : unsigned_abs a < 2 ^ 124 → most < 2 ^ 124 → AreBounded n
  figures_bounded low small = record {
    scale = omega (arith, ap unsigned_abs are.scale);
    offset = omega (arith, are.offset_low);
    threshold = omega (arith, are.threshold_low);
  }

-- a figure that is moved by what the code has reduced is far below what its field holds
pub moved_low : (z b : ℤ) → unsigned_abs z < 2 ^ 124 → unsigned_abs b ≤ 2 ^ 124
    → unsigned_abs (z +ℤ to_z w128 (of_z w128 b)) < 2 ^ 125
moved_low z b low small =
    rw (to_z-of_z w128 b (fits_signed_from_abs w128 b (omega (arith, small)))) (omega (arith, ints, low, small))

-- and fits it
pub moved_fits : (z b : ℤ) → unsigned_abs z < 2 ^ 124 → unsigned_abs b ≤ 2 ^ 124
    → FitsSigned w128 (z +ℤ to_z w128 (of_z w128 b))
moved_fits z b low small = fits_signed_from_abs w128 _ (omega (arith, moved_low z b low small))

-- The models of a form that stands for a problem, as it is and in its greatest unit.

-- ---- what stands for a problem

-- figures of the scale a, with the threshold of the problem, none of them greater than a number
abbrev pub HasFigures : ℤ → ProblemContent → Figures → ℕ → Type 0
HasFigures a p n most = AreFigures a (a *ℤ upper p) n most

-- a form that is counted in a unit stands where the form does
stands_reduced : (p : ProblemContent) (f g : Form) (d : Decoding) (u : ℤ) (n : Figures) (b : ℤ)
    → Stands p f d (pos 1) n → Reduces f g u b → Stands p g d u (figures_moved n b)
stands_reduced p f g d u n b stands reduces = record {
  unit = reduces.positive;
  positive = stands.positive;
  relaxes = λ scope allowed.
      reduces_after_by scope (form_of p) f g d n u b (stands.relaxes scope allowed) reduces;
  stays = reduces_stays_above stands.stays reduces;
  decodes = stands.decodes;
}

module _ (p : ProblemContent) (own : ℕ) (d : Decoding) where
  -- ---- the model of a quadratic form

  -- in any unit
  qubo_in : (choice : UnitChoice) (q : QuadContent) (u : ℤ) (n : Figures) → IsQuad q
      → own ≤ length q.diagonal → (u ≡ pos 1) ⊎ (q.constant ≡ pos 0) → quad_total q < 2 ^ 121
      → unsigned_abs u ≤ 2 ^ 122 → HasFigures (pos 1) p n (2 ^ 122)
      → Stands p (quads.form_of q) d u n → HasUnit choice (quads.written_of q own n u)
      → IsModelOf p own Qubo choice (quads.written_of q own n u)
  qubo_in choice q u n quad least counted small low has stands unit =
      let moved = figures_are_moved _ _ n _ has (2 ^ 121) _ (minus_low q.constant _ (omega (arith, small))) in record {
        kind = refl;
        fits = record {
          graph = tt;
          variables = omega (arith, quad.narrow, least);
          figures = figures_fit _ _ _ _ moved (omega (arith, ints)) (omega arith);
          unit = omega (arith, low);
          nodes = quad.narrow;
          weights = omega (arith, small);
          qubits = All-nil _;
        };
        bounded = record {
          weights = omega (arith, small);
          unit = omega (arith, low);
          figures = figures_bounded _ _ _ _ moved (omega (arith, ints)) (omega arith);
        };
        well_formed = written_quads.written_is_well_formed q own n u quad least stands.positive stands.unit;
        variables = refl;
        scale = has.scale;
        threshold = omega (arith, ints, moved.threshold, ap (λ s. s *ℤ upper p) moved.scale);
        unit = unit;
        relaxes = λ scope allowed.
            written_quads.written_relaxes scope (form_of p) q d p.variables n u counted stands.decodes (stands.relaxes scope allowed);
        stays = written_quads.written_stays (form_of p) q d p.variables n u counted stands.decodes stands.stays;
      }

  -- in the unit that is chosen
  pub qubo_stands : (choice : UnitChoice) (q : QuadContent) (n : Figures) → IsQuad q
      → own ≤ length q.diagonal → quad_total q < 2 ^ 121 → HasFigures (pos 1) p n (2 ^ 121)
      → Stands p (quads.form_of q) d (pos 1) n
      → IsModelOf p own Qubo choice (qubo_model choice q own n)
  qubo_stands One q n quad least small has stands =
      qubo_in One q (pos 1) n quad least (inl refl) small (omega (arith, ints))
      (figures_within _ _ _ _ has _ (omega arith)) stands refl
  qubo_stands Reduce q n quad least small has stands =
      let c = neg_ℤ q.constant in
      let width = length-map q.diagonal (counted_in (quad_unit q)) in
      let low = unit_low q.diagonal q.couplers (2 ^ 121) (omega (arith, small)) in
      let less = once_low (quad_unit q) (quad_total (units.reduced q)) (quad_total q)
      (reduced_quads.one_le_quad_unit q) (reduced_quads.total_reduced q) in
      qubo_in Reduce (units.reduced q) (quad_unit q) (figures_moved n c)
      (reduced_quads.reduced_is_quad q quad) (omega (arith, width, least)) (inr refl)
      (omega (arith, less, small)) (omega (arith, low))
      (figures_are_moved _ _ n _ has _ c (minus_low q.constant (2 ^ 121) (omega (arith, small))))
      (stands_reduced p (quads.form_of q) _ d (quad_unit q) n c stands
      (reduced_quads.reduced_reduces q))
      (reduced_quads.reduced_is_reduced q own (figures_moved n c))

  -- ---- the model of an Ising form

  -- in any unit
  ising_in : (choice : UnitChoice) (f : IsingContent) (u : ℤ) (n : Figures) → IsIsing f
      → own ≤ p.variables → p.variables ≤ length f.fields
      → (u ≡ pos 1) ⊎ (f.constant ≡ pos 0) → ising_total f < 2 ^ 121 → unsigned_abs u ≤ 2 ^ 122
      → HasFigures (pos 4) p n (2 ^ 122) → Stands p (isings.form_of f) d u n
      → HasUnit choice (outputs.written_of f own n u kinds.Ising [])
      → IsModelOf p own Ising choice (outputs.written_of f own n u kinds.Ising [])
  ising_in choice f u n ising few enough counted small low has stands unit =
      let least : own ≤ length f.fields = omega (arith, few, enough) in
      let moved = figures_are_moved _ _ n _ has (2 ^ 121) _ (minus_low f.constant _ (omega (arith, small))) in record {
        kind = refl;
        fits = record {
          graph = tt;
          variables = omega (arith, ising.narrow, least);
          figures = figures_fit _ _ _ _ moved (omega (arith, ints)) (omega arith);
          unit = omega (arith, low);
          nodes = ising.narrow;
          weights = omega (arith, small);
          qubits = All-nil _;
        };
        bounded = record {
          weights = omega (arith, small);
          unit = omega (arith, low);
          figures = figures_bounded _ _ _ _ moved (omega (arith, ints)) (omega arith);
        };
        well_formed = written_isings.written_is_well_formed f own n u kinds.Ising [] ising (refl, least) stands.positive stands.unit;
        variables = refl;
        scale = has.scale;
        threshold = omega (arith, ints, moved.threshold, ap (λ s. s *ℤ upper p) moved.scale);
        unit = unit;
        relaxes = λ scope allowed.
            written_isings.written_relaxes scope (form_of p) f d p.variables n u kinds.Ising [] (refl, enough) counted stands.decodes (stands.relaxes scope allowed);
        stays =
            written_isings.written_stays (form_of p) f d p.variables n u kinds.Ising [] (refl, enough) counted stands.decodes stands.stays;
      }

  -- in the unit that is chosen
  pub ising_stands : (choice : UnitChoice) (f : IsingContent) (n : Figures) → IsIsing f
      → own ≤ p.variables → p.variables ≤ length f.fields → ising_total f < 2 ^ 121
      → HasFigures (pos 4) p n (2 ^ 121) → Stands p (isings.form_of f) d (pos 1) n
      → IsModelOf p own Ising choice (chained_model choice f own n kinds.Ising [])
  ising_stands One f n ising few enough small has stands =
      ising_in One f (pos 1) n ising few enough (inl refl) small (omega (arith, ints))
      (figures_within _ _ _ _ has _ (omega arith)) stands refl
  ising_stands Reduce f n ising few enough small has stands =
      let c = neg_ℤ f.constant in
      let width = length-map f.fields (counted_in (ising_unit f)) in
      let low = unit_low f.fields f.couplings (2 ^ 121) (omega (arith, small)) in
      let less = once_low (ising_unit f) (ising_total (reduction.reduced f)) (ising_total f)
      (reduced_isings.one_le_ising_unit f)
      (reduced_isings.made_total f (reduction.reduced f) (ising_unit f) refl refl) in
      let least : own ≤ length (reduction.reduced f).fields = omega (arith, width, few, enough) in
      ising_in Reduce (reduction.reduced f) (ising_unit f) (figures_moved n c)
      (reduced_isings.reduced_is_ising f ising) few (omega (arith, width, enough)) (inr refl)
      (omega (arith, less, small)) (omega (arith, low))
      (figures_are_moved _ _ n _ has _ c (minus_low f.constant (2 ^ 121) (omega (arith, small))))
      (stands_reduced p (isings.form_of f) _ d (ising_unit f) n c stands
      (reduced_isings.made_reduces f (reduction.reduced f) (ising_unit f) c refl refl refl))
      (written_isings.made_is_reduced f (reduction.reduced f) (ising_unit f) refl refl own (figures_moved n c) kinds.Ising [] (refl, least))
