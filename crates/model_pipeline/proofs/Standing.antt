-- From additions that are small to their quadratic form: all that is made on the way is well formed
-- and has room.
use Rattle.model_pipeline.proofs.Common.{◌≤◌, ◌+◌, ◌^◌, refl, sym, ap, subst, arith, BitsLink, High, TableContent, IsTable, table_size, terms_total-with_additions, all_nodes-le, IsSound-run, IsLow-image, size-image, QuadContent, IsQuad, quad_size, quad_total, quad_total-image, quad_size-image, IsQuad-image, table_of, IsTable-table_of, IsTable-low_of, image-quad, nodes-table, IsWithin, low_terms_of, LowFits, AddTo, nat_tests, ◌≡◌, ◌++◌, None, List, [], length, All, ◌∙◌, append-nil, recursion_from_All, ProblemContent, IsNormal, limit_fault, Normal, Term, IsTermSet, with_additions, coefficient_of-with_additions, OfSet, All-with_additions, AreTerms-with_additions, contributions-sets, same_tables, contribution_sets, multiplied, IsSmall, penalty_admits, AreAdditions-multiplied_out, small-additions, total-multiplied, size_within, image_size, AreAdditions-contributions, total-additions, additions_of, HeldContent, HasPlaces, sum_for-with_additions, places_at_first, terms_of, ◌<◌, ◌*◌, ℕ, ℤ, pos, ◌+ℤ◌, ◌*ℤ◌, FitsSigned, unsigned_abs, w128, ints, take-take, Figures, UnitChoice, Decoding, Keeps, PenaltyScope, RelaxesBy, StaysAbove, decoding_after, figures_after, keeps_after_by, keeps_stays_above, first_bits, Choices, form_of, upper, NodeModel, figures, node_count, penalty_relaxes, penalty_stays, threshold_within, multilinear_relaxes, multilinear_stays, mono_keeps, rosen_keeps, width-run-le, same_bits, length-image, flat_keeps, coupled, length-fields, spins_keeps, image_is_ising, total-image, IsModelOf, form_model, take, Bool, Stands, ising_figures, quad_by, quad_of, HasRoom, IsQuadratized, Monomial, Rosenberg, Qubo, Ising}
use Rattle.term_table.specs.Tables.{IsLow}
use Rattle.rosenberg_layer.proofs.Growth.{total-image as total-rosenberg}
use Rattle.problem_form.specs.declared.limits.Normal.TheVariants.{Literal, Multilinear}
use Rattle.term_table.specs.MultipliedOut.{contributions}
use Rattle.normal_form.specs.Multilinear.{Admits}
use Rattle.model_pipeline.proofs.FormModels.{HasFigures, qubo_stands, ising_stands, figures_within}
use Rattle.monomial_layer.specs.Monomials as monomials
use Rattle.monomial_layer.proofs.Sets as sets
use Rattle.monomial_layer.proofs.Sizes as sizes
use Rattle.quadratization.specs.laws.Between.{low_of, total-low_of}
use Rattle.rosenberg_layer.specs.Rosenberg as rosenberg
use Rattle.quad_form.specs.Flat as flat
use Rattle.penalty_layer.specs.Penalty as penalty
use Rattle.normal_form.specs.Multilinear as multilinear
use Rattle.term_table.specs.Tables as tables
use Rattle.quad_form.specs.Quads as quads
use Rattle.ising_form.specs.Isings as isings
use Rattle.ising_form.specs.Spins as spins

-- the form of a table whose long terms are replaced so
abbrev pub quad_after : High → TableContent → QuadContent
quad_after high t = flat.image (low_terms_of high t)

-- a table that can be replaced so and multiplied out, and has room for the Ising form
pub record HasQuad (high : High) (t : TableContent) : Type 0 where
  pub table : IsTable t
  pub low : IsTable (low_terms_of high t)
  pub short : IsLow (low_terms_of high t)
  pub quad : IsQuad (quad_after high t)
  pub total : quad_total (quad_after high t) + 1 ≤ 2 ^ 98
  pub size : quad_size (quad_after high t) ≤ 2 ^ 29

-- ---- small additions

pub IsWithin-small : (t u : TableContent) → AddTo t u → IsWithin u
IsWithin-small t u adds = record {
  additions = adds.additions;
  narrow =
      omega (arith, adds.size, ap table_size adds.table, nodes-table u, all_nodes-le (table_of u).terms);
  total = omega (arith, adds.total);
}

sums_have_quad : (high : High) (u : TableContent) → AddTo (table_of u) u → HasQuad high (table_of u)
sums_have_quad Monomial u adds = record {
  table = IsTable-table_of u adds.additions;
  low = IsTable-low_of u adds.additions (omega (arith, adds.total));
  short = sets.IsLow-image (table_of u);
  quad = image-quad u (IsWithin-small (table_of u) u adds);
  total = omega (arith, adds.total, quad_total-image (low_of u) (sets.IsLow-image (table_of u)), total-low_of u adds.additions);
  size = omega (arith, adds.size, quad_size-image (low_of u) (sets.IsLow-image (table_of u)), sizes.size-image (table_of u));
}
sums_have_quad Rosenberg u adds =
    let t = table_of u in
    let is = IsTable-table_of u adds.additions in
    let low = rosenberg.image t in
    let short = IsLow-image t is.terms in
    let summed = terms_total-with_additions u.terms in
    let growth = total-rosenberg t is.terms in
    let table : IsTable low = record {
      terms = IsSound-run (rosenberg.excess t.terms) t is.terms;
      small = omega (arith, growth, summed, adds.total);
    } in
    record {
      table = is;
      low = table;
      short = short;
      quad = IsQuad-image low table short (omega (arith, adds.size, size-image t is.terms))
          (omega (arith, growth, summed, adds.total));
      total = omega (arith, quad_total-image low short, growth, summed, adds.total);
      size = omega (arith, quad_size-image low short, size-image t is.terms, adds.size);
    }

pub has_quad : (high : High) (t u : TableContent) → AddTo t u → HasQuad high t
has_quad high t u adds =
    subst (HasQuad high) adds.table
    (sums_have_quad high u (subst (λ s. AddTo s u) (sym adds.table) adds))

-- ---- links of the steps, which need not be made

pub low_link : (high : High) (t : TableContent) → HasQuad high t
    → (link : BitsLink) × LowFits high link t
low_link Monomial t on = (
  record { source_width = t.width; target_width = (monomials.image t).width },
  record { source = refl; target = refl; table = on.table },
)
low_link Rosenberg t on = (
  record { source_width = t.width; target_width = (rosenberg.image t).width },
  record { source = refl; target = refl; table = on.table },
)

pub flat_link : (high : High) (t : TableContent) → HasQuad high t
    → (link : BitsLink) × flat.Fits link (low_terms_of high t)
flat_link high t on =
    let width = (low_terms_of high t).width in (
      record { source_width = width; target_width = width },
      record { source = refl; target = refl; table = on.low; low = on.short },
    )

-- What a problem contributes is small. Multiplied out as it comes, it has the problem's multilinear
-- table.

-- what a problem adds, multiplied out
abbrev pub plain_additions : ProblemContent → TableContent
plain_additions p = multiplied (additions_of p)

-- ---- summed before or after it is multiplied out

pub table_of-plain : (p : ProblemContent) → Admits p → table_of (plain_additions p) ≡ multilinear.image p
table_of-plain p admitted =
    let width = penalty.node_count p in
    let ts = penalty.contributions p in
    let P = OfSet (IsTermSet width) in
    let sets = contribution_sets p (penalty_admits p admitted) in
    let summed = contributions-sets width (with_additions [] ts) (recursion_from_All P (with_additions [] ts) (All-with_additions (IsTermSet width) ts sets)) in
    let same : with_additions [] (contributions ts) ≡ with_additions [] (contributions (with_additions [] ts)) =
    same_tables width (with_additions [] (contributions ts)) (with_additions [] (contributions (with_additions [] ts)))
    (AreTerms-with_additions width (contributions ts) (AreAdditions-multiplied_out p admitted).sets)
    (AreTerms-with_additions width (contributions (with_additions [] ts)) summed) (λ ls.
    coefficient_of-with_additions ls (contributions ts) ∙ sym (sum_for-with_additions ls ts)
    ∙ sym (coefficient_of-with_additions ls (contributions (with_additions [] ts)))) in
    λ i. record { width = width; terms = same i }

-- ---- there is room

-- there is room for it where nothing is held
pub room-plain : (p : ProblemContent) (h : HeldContent) → Admits p → length h.weights ≡ penalty.node_count p
    → h.total ≡ 0 → (more : List Term)
    × (HasPlaces h (contributions (penalty.contributions p ++ more)) × All IsSmall (penalty.contributions p ++ more))
room-plain p h admitted wide total =
    let ts = penalty.contributions p in
    let additions = AreAdditions-multiplied_out p admitted in
    let places =
    places_at_first h (contributions ts) (penalty.node_count p) wide total additions.sets
    (omega (arith, total-multiplied p admitted)) in
    ([], subst (λ us. HasPlaces h (contributions us) × All IsSmall us) (sym (append-nil ts)) (places, small-additions p admitted))

-- ---- a problem within the limits of the steps

-- the penalty method admits it
pub admits_of : (normal : Normal) (p : ProblemContent) → IsNormal p → limit_fault normal p ≡ None
    → penalty.Admits p
admits_of normal p is within = grind (arith, nat_tests, penalty_admits)

-- what it adds in a normal form
abbrev pub additions_by : Normal → ProblemContent → TableContent
additions_by Literal p = additions_of p
additions_by Multilinear p = plain_additions p

-- is small
pub added : (normal : Normal) (p : ProblemContent) → IsNormal p → limit_fault normal p ≡ None
    → AddTo (terms_of normal p) (additions_by normal p)
added Literal p normal within =
    let admitted : penalty.Admits p = record { normal = normal; within = within } in
    record {
      additions = AreAdditions-contributions p admitted;
      table = refl;
      total = omega (arith, total-additions p within);
      size = image_size p admitted;
    }
added Multilinear p normal within =
    let admitted : Admits p = record { normal = normal; within = within } in
    record {
      additions = AreAdditions-multiplied_out p admitted;
      table = table_of-plain p admitted;
      total = total-multiplied p admitted;
      size = size_within p within;
    }

-- so there is room on the way to its quadratic form
pub problem_has_quad : (normal : Normal) (high : High) (p : ProblemContent) → IsNormal p
    → limit_fault normal p ≡ None → HasQuad high (terms_of normal p)
problem_has_quad normal high p is_normal within =
    has_quad high (terms_of normal p) (additions_by normal p) (added normal p is_normal within)

-- The model of a problem: what it promises of the problem.

-- the same form, with the same figures
pub formed_as : (p : ProblemContent) (q r : QuadContent) (n : Figures) → q ≡ r → n ≡ figures p
    → IsQuadratized p r (figures p) → IsQuadratized p q n
formed_as p q r n form figured made = grind (arith, nat_tests)

-- a step that neither scales nor moves keeps the figures
pub figures-still : (n : Figures) → figures_after n (pos 1) (pos 0) ≡ n
figures-still n i =
    let scale : n.scale *ℤ pos 1 ≡ n.scale = omega (arith, ints) in
    let offset : pos 1 *ℤ n.offset +ℤ pos 0 ≡ n.offset = omega (arith, ints) in
    let threshold : pos 1 *ℤ n.threshold +ℤ pos 0 ≡ n.threshold = omega (arith, ints) in
    record { scale = scale i; offset = offset i; threshold = threshold i }

-- ---- step by step

-- the terms of a problem relax it, in each scope that its penalties allow
terms_relax : (normal : Normal) (a : BitsLink) (p : ProblemContent) → penalty.Fits a p
    → (scope : PenaltyScope) → penalty.Allows scope p
    → RelaxesBy scope (form_of p) (tables.form_of (terms_of normal p)) (first_bits a) (pos 1) (figures p)
terms_relax Literal a p fits = penalty_relaxes a p fits
terms_relax Multilinear a p fits = multilinear_relaxes a p fits

-- and no state of theirs lies below the whole cost that it decodes to
terms_stay : (normal : Normal) (a : BitsLink) (p : ProblemContent) → penalty.Fits a p
    → StaysAbove (form_of p) (tables.form_of (terms_of normal p)) (first_bits a) (pos 1) (figures p)
terms_stay Literal a p fits = penalty_stays a p fits
terms_stay Multilinear a p fits = multilinear_stays a p fits

pub terms_width : (normal : Normal) (p : ProblemContent) → (terms_of normal p).width ≡ node_count p
terms_width normal p = grind (arith, nat_tests)

pub low_source : (high : High) (b : BitsLink) (t : TableContent) → LowFits high b t
    → b.source_width ≡ t.width
low_source high b t fits = grind (arith, nat_tests)

pub low_keeps : (high : High) (b : BitsLink) (t : TableContent) → LowFits high b t
    → Keeps (tables.form_of t) (tables.form_of (low_terms_of high t)) (first_bits b) (pos 1) (pos 0)
low_keeps Monomial b t fits = mono_keeps b t fits
low_keeps Rosenberg b t fits = rosen_keeps b t fits

low_wider : (high : High) (t : TableContent) → t.width ≤ (low_terms_of high t).width
low_wider high t = grind (arith, nat_tests, width-run-le)

-- states are decoded step by step
abbrev pub steps : BitsLink → BitsLink → BitsLink → Decoding
steps a b c = decoding_after (decoding_after (first_bits a) (first_bits b)) (same_bits c)

module _ (normal : Normal) (high : High) (p : ProblemContent) where
  pub steps_enough : p.variables ≤ length (quad_by normal high p).diagonal
  steps_enough = grind (arith, nat_tests, length-image, low_wider, terms_width)

  -- the steps decode a state to its first bits
  pub steps-first : (a b c : BitsLink) → penalty.Fits a p → LowFits high b (terms_of normal p)
      → (y : List Bool) → (steps a b c).decoded y ≡ take p.variables y
  steps-first a b c fits_a fits_b y = grind (arith, nat_tests, low_source, terms_width, take-take)

  -- with the links of the steps
  module _ (normal_is : IsNormal p) (on : HasQuad high (terms_of normal p)) where
    abbrev pub term_link : (link : BitsLink) × penalty.Fits link p
    term_link = (
      record { source_width = p.variables; target_width = node_count p },
      record { source = refl; target = refl; normal = normal_is },
    )

    pub formed_by_steps : unsigned_abs (upper p) ≤ 2 ^ 64
        → IsQuadratized p (quad_by normal high p) (figures p)
    formed_by_steps threshold =
        let t = terms_of normal p in
        let f = form_of p in
        let g = quads.form_of (quad_by normal high p) in
        let a = term_link in
        let b = low_link high t on in
        let c = flat_link high t on in
        let low = tables.form_of (low_terms_of high t) in
        let d = steps a.0 b.0 c.0 in
        let first = low_keeps high b.0 t b.1 in
        let second = flat_keeps c.0 (low_terms_of high t) c.1 in
        let n = figures p in
        let still : figures_after (figures_after (figures p) (pos 1) (pos 0)) (pos 1) (pos 0) ≡
        figures p =
        ap (λ n. figures_after n (pos 1) (pos 0)) (figures-still (figures p)) ∙ figures-still
        (figures p) in
        record {
          figures = refl;
          threshold = threshold;
          enough = steps_enough;
          total = omega (arith, on.total);
          size = omega (arith, on.size);
          total_low = on.total;
          size_low = on.size;
          stands = (
            d,
            record {
              unit = omega (arith, ints);
              positive = omega (arith, ints);
              relaxes = λ scope allowed.
                  subst (RelaxesBy scope f g d (pos 1)) still
                  (keeps_after_by scope f low g (decoding_after (first_bits a.0) (first_bits b.0)) (same_bits c.0)
                  (figures_after n (pos 1) (pos 0)) (pos 1) (pos 0)
                  (keeps_after_by scope f (tables.form_of t) low (first_bits a.0) (first_bits b.0) n (pos 1) (pos 0)
                  (terms_relax normal a.0 p a.1 scope allowed) first) second);
              stays =
                  subst (StaysAbove f g d (pos 1)) still
                  (keeps_stays_above (keeps_stays_above (terms_stay normal a.0 p a.1) first) second);
              decodes = steps-first a.0 b.0 c.0 a.1 b.1;
            },
          );
        }

-- the form of a problem within the limits stands for it
pub problem_formed : (choices : Choices) (p : ProblemContent) → IsNormal p
    → limit_fault choices.normal p ≡ None → IsQuadratized p (quad_of choices p) (figures p)
problem_formed choices p normal within =
    formed_by_steps choices.normal choices.high p normal
    (problem_has_quad choices.normal choices.high p normal within)
    (threshold_within p (upper p) (admits_of choices.normal p normal within) refl)

-- and has room for the Ising form
pub room_of : (choices : Choices) (p : ProblemContent) → IsNormal p
    → limit_fault choices.normal p ≡ None → HasRoom (quad_of choices p)
room_of choices p normal within =
    let on = problem_has_quad choices.normal choices.high p normal within in
    record { quad = on.quad; total = omega (arith, on.total) }

-- ---- its model

-- the figures of the problem
figures_are_stated : (p : ProblemContent) → unsigned_abs (upper p) ≤ 2 ^ 64
    → HasFigures (pos 1) p (figures p) (2 ^ 64)
figures_are_stated p low = record {
  scale = refl;
  threshold = omega (arith, ints);
  offset_low = omega (arith, ints);
  threshold_low = low;
}

four_times_low : (z : ℤ) (most : ℕ) → unsigned_abs z ≤ most
    → unsigned_abs (pos 4 *ℤ z +ℤ pos 0) ≤ 4 * most
four_times_low z most h = omega (arith, ints)

-- a small number fits four times
module _ (z s : ℤ) (four : s ≡ pos 4) (small : unsigned_abs z < 2 ^ 122) where
  pub fits-times : FitsSigned w128 (z *ℤ s)
  fits-times = grind (arith, nat_tests, ints)

  pub fits-product : FitsSigned w128 (s *ℤ z)
  fits-product = grind (arith, nat_tests, ints)

  pub fits-sum : (b : ℤ) → b ≡ pos 0 → FitsSigned w128 (s *ℤ z +ℤ b)
  fits-sum b none = grind (arith, nat_tests, ints)

-- the figures of its Ising form
pub ising_figures_are_stated : (p : ProblemContent) → unsigned_abs (upper p) ≤ 2 ^ 64
    → HasFigures (pos 4) p (ising_figures (figures p)) (2 ^ 66)
ising_figures_are_stated p low = record {
  scale = refl;
  threshold = omega (arith, ints);
  offset_low = omega (arith, ints);
  threshold_low = four_times_low (upper p) (2 ^ 64) low;
}

-- the widths of a quadratic form and of its Ising form
abbrev pub spins_link : QuadContent → BitsLink
spins_link q = record { source_width = length q.diagonal; target_width = length q.diagonal }

pub spins_fit : (q : QuadContent) → IsQuad q → spins.Fits (spins_link q) q
spins_fit q quad = record { source = refl; target = refl; quad = quad }

-- its Ising form stands for what it stands for
pub spins_stand : (p : ProblemContent) (q : QuadContent) → IsQuad q
    → (d : Decoding) × Stands p (quads.form_of q) d (pos 1) (figures p)
    → (d : Decoding) × Stands p (isings.form_of (spins.image q)) d (pos 1) (ising_figures (figures p))
spins_stand p q kept (d, stands) = (
  decoding_after d (same_bits (spins_link q)),
  record {
    unit = stands.unit;
    positive = omega (arith, ints);
    relaxes = λ scope allowed.
        keeps_after_by scope (form_of p) (quads.form_of q) (isings.form_of (spins.image q)) d
        (same_bits (spins_link q)) (figures p) (pos 4) (pos 0) (stands.relaxes scope allowed)
        (spins_keeps (spins_link q) q (spins_fit q kept));
    stays = keeps_stays_above stands.stays (spins_keeps (spins_link q) q (spins_fit q kept));
    decodes = stands.decodes;
  },
)

-- the model of a form that stands for a problem, for each target and in each unit
made_model : (target : NodeModel) (choice : UnitChoice) (p : ProblemContent) (own : ℕ)
    (q : QuadContent) → IsQuad q → IsQuadratized p q (figures p) → own ≤ p.variables
    → IsModelOf p own target choice (form_model target choice q own (figures p))
made_model Qubo choice p own q kept made few =
    let least : own ≤ length q.diagonal = omega (arith, made.enough, few) in
    let figured = figures_within _ _ _ _ (figures_are_stated p made.threshold) _ (omega arith) in
    qubo_stands p own made.stands.0 choice q (figures p) kept least (omega (arith, made.total_low))
    figured made.stands.1
made_model Ising choice p own q kept made few =
    let stands = spins_stand p q kept made.stands in
    let width = length-fields (coupled q.couplers) 0 q.diagonal in
    let enough : p.variables ≤ length (spins.image q).fields = omega (arith, width, made.enough) in
    let figured = figures_within _ _ _ _ (ising_figures_are_stated p made.threshold) _ (omega arith) in
    ising_stands p own stands.0 choice (spins.image q) (ising_figures (figures p))
    (image_is_ising q kept made.total) few enough
    (omega (arith, total-image q, made.total_low)) figured stands.1

-- the same with figures that are the problem's
pub formed_model : (target : NodeModel) (choice : UnitChoice) (p : ProblemContent) (own : ℕ)
    (q : QuadContent) (n : Figures) → IsQuad q → IsQuadratized p q n → own ≤ p.variables
    → IsModelOf p own target choice (form_model target choice q own n)
formed_model target choice p own q n kept made few = grind (arith, nat_tests, made_model)
