-- The multilinear form of a problem relaxes it, as the penalty method's table does. Nothing here has
-- to be believed.
use Rattle.std.specs.Prelude.{◌≡◌, ℕ, ◌+ℤ◌, ◌*ℤ◌}
use Rattle.term_table.proofs.Common.{terms_cost, contributions}
use Rattle.penalty_layer.proofs.Common.{pos, Bool, List, length, arith, refl, subst, ◌∙◌, ints, BitsLink, first_bits, ProblemContent, TableContent}
use Rattle.base.specs.Costs.{IsNeverInfinite}
use Rattle.base.specs.Figures.{figures_after}
use Rattle.form_steps.specs.Relations.{Decoding, Keeps, RelaxesBy, StaysAbove, ExtendsLeast, Joins}
use Rattle.form_steps.specs.laws.AtLeast.{keeps_after_by, keeps_stays_above}
use Rattle.form_steps.specs.declared.scope.PenaltyScope.{PenaltyScope}
use Rattle.problem_form.specs.Problems as problems
use Rattle.term_table.specs.Tables as tables
use Rattle.term_table.specs.laws.MultipliedOut.{terms_cost-contributions}
use Rattle.term_table.proofs.Additions.{terms_cost-with_additions}
use Rattle.penalty_layer.specs.Penalty.{figures, extension, Allows, Fits}
use Rattle.penalty_layer.specs.Penalty as penalty
use Rattle.penalty_layer.specs.laws.Relaxing.{penalty_relaxes, penalty_stays, penalty_extends, penalty_joins}
use Rattle.normal_form.specs.Multilinear.{expanded, image}

-- each state stands for itself
abbrev same_states : ℕ → Decoding
same_states n = record { source_width = n; target_width = n; decoded = λ y. y }

-- every state costs what it did
pub cost_expanded : (t : TableContent) (x : List Bool)
    → terms_cost x (expanded t).terms ≡ terms_cost x t.terms
cost_expanded t x =
    terms_cost-with_additions x (contributions t.terms) ∙ terms_cost-contributions x t.terms

-- the multilinear form keeps the penalty method's table, state by state
multilinear_keeps : (p : ProblemContent) (n : ℕ)
    → Keeps (tables.form_of (penalty.image p)) (tables.form_of (image p)) (same_states n) (pos 1) (pos 0)
multilinear_keeps p n =
    let same = cost_expanded (penalty.image p) in
    record {
      positive = omega (arith, ints);
      width = λ z w. w;
      bound = λ z w. omega (arith, ints, same z);
      reached = λ y w. (y, record { width = w; decodes = refl; energy = omega (arith, ints, same y) });
    }

-- figures that are scaled by 1 and moved by 0 stay
figures_kept : (p : ProblemContent) → figures_after (figures p) (pos 1) (pos 0) ≡ figures p
figures_kept p =
    let high : pos 1 *ℤ (figures p).threshold +ℤ pos 0 ≡ (figures p).threshold = omega (arith, ints) in
    λ i. record { scale = pos 1; offset = pos 0; threshold = high i }

-- so it relaxes the problem in each scope that the penalties allow
pub multilinear_relaxes : (link : BitsLink) (p : ProblemContent) → Fits link p
    → (scope : PenaltyScope) → Allows scope p
    → RelaxesBy scope (problems.form_of p) (tables.form_of (image p)) (first_bits link) (pos 1) (figures p)
multilinear_relaxes link p fits scope allowed =
    let f = problems.form_of p in
    let h = tables.form_of (image p) in
    subst (RelaxesBy scope f h (first_bits link) (pos 1)) (figures_kept p)
    (keeps_after_by scope f (tables.form_of (penalty.image p)) h (first_bits link) (same_states link.target_width) (figures p) (pos 1) (pos 0)
    (penalty_relaxes link p fits scope allowed) (multilinear_keeps p link.target_width))

-- and no state lies below the whole cost that it decodes to
pub multilinear_stays : (link : BitsLink) (p : ProblemContent) → Fits link p
    → StaysAbove (problems.form_of p) (tables.form_of (image p)) (first_bits link) (pos 1) (figures p)
multilinear_stays link p fits =
    subst (StaysAbove (problems.form_of p) (tables.form_of (image p)) (first_bits link) (pos 1)) (figures_kept p)
    (keeps_stays_above (penalty_stays link p fits) (multilinear_keeps p link.target_width))

-- what extends an assignment with the least cost does so still
pub multilinear_extends : (link : BitsLink) (p : ProblemContent) (x : List Bool) → Fits link p
    → length x ≡ p.variables
    → ExtendsLeast (problems.form_of p) (tables.form_of (image p)) (first_bits link) (figures p) x
    (extension p x)
multilinear_extends link p x fits width =
    let q = penalty_extends link p x fits width in
    let same = cost_expanded (penalty.image p) in
    record {
      width = q.width;
      decodes = q.decodes;
      scaled = λ v whole. same (extension p x) ∙ q.scaled v whole;
      least = λ z w e. omega (arith, ints, q.least z w e, same (extension p x), same z);
    }

-- a link that fits has the widths of the problem and of its image
pub multilinear_joins : (link : BitsLink) (p : ProblemContent) → Fits link p
    → Joins (problems.form_of p) (tables.form_of (image p)) (first_bits link)
multilinear_joins link p fits =
    let q = penalty_joins link p fits in record { source = q.source; target = q.target }

-- the costs of an image are whole
pub multilinear_whole : (p : ProblemContent) → IsNeverInfinite (tables.form_of (image p))
multilinear_whole p y e = cc
