-- What the guard makes of a problem that it admits.
use Rattle.penalty_layer.proofs.Common.{nat_tests, ints, ◌≡◌, ◌+◌, ◌≤◌, ◌^◌, pos, unsigned_abs, ℤ, [], subst, sym, ap, arith, None, BitsLink, PenaltyScope, RelaxesBy, StaysAbove, first_bits, ProblemContent, upper, limit_fault, terms_total, with_additions, TableContent, KeptTable, kept_at_once, table_size, Ascends-with_additions, Admits, contributions, node_count, image, Fits, Allows, penalty_relaxes, penalty_stays}
use Rattle.problem_form.specs.declared.limits.Normal.TheVariants as normals
use Rattle.problem_form.specs.Problems as problems
use Rattle.term_table.specs.Tables as tables
use Rattle.penalty_layer.proofs.Bounds.{within_limits, upper_within}
use Rattle.penalty_layer.proofs.Sizes.{size_within}
use Rattle.penalty_layer.proofs.Sums.{image-total}

-- the additions, summed
pub made_image : (p : ProblemContent) (gathered : TableContent) (table : KeptTable)
    → gathered ≡ record { width = node_count p; terms = contributions p } → table ≡ kept_at_once
    (record { width = gathered.width; terms = with_additions [] gathered.terms })
    → table ≡ kept_at_once (image p)
made_image p gathered table added summed = grind (arith, nat_tests)

pub made_total : (p : ProblemContent) (third : KeptTable) → limit_fault normals.Literal p ≡ None
    → third ≡ kept_at_once (image p) → terms_total third.content.terms + 1 ≤ 2 ^ 64
made_total p third none made =
    omega (arith, ap (λ (t : KeptTable). terms_total t.content.terms) made, image-total p none)

-- the image is within the bound of the guard
pub image_size : (p : ProblemContent) → Admits p → table_size (image p) ≤ 2 ^ 26
image_size p admitted = size_within p admitted.within (Ascends-with_additions (contributions p))

pub made_size : (p : ProblemContent) (third : KeptTable) → Admits p
    → third ≡ kept_at_once (image p) → table_size third.content ≤ 2 ^ 26
made_size p third admitted made =
    subst (λ (t : KeptTable). table_size t.content ≤ 2 ^ 26) (sym made) (image_size p admitted)

-- the nodes are few
pub nodes_within : (p : ProblemContent) → Admits p → node_count p ≤ 2 ^ 26
nodes_within p admitted = omega (arith, image_size p admitted)

pub made_relaxes : (link : BitsLink) (p : ProblemContent) (third : KeptTable) (threshold : ℤ)
    → Fits link p → third ≡ kept_at_once (image p) → threshold ≡ upper p → (scope : PenaltyScope)
    → Allows scope p
    → RelaxesBy scope (problems.form_of p) (tables.form_of third.content) (first_bits link) (pos 1)
    (record { scale = pos 1; offset = pos 0; threshold = threshold })
made_relaxes link p third threshold fit made high scope allowed =
    let Relaxed : KeptTable → ℤ → Type 0 =
    λ t u. RelaxesBy scope (problems.form_of p) (tables.form_of t.content) (first_bits link) (pos 1)
    (record { scale = pos 1; offset = pos 0; threshold = u }) in
    subst (λ t. Relaxed t threshold) (sym made)
    (subst (λ u. Relaxed (kept_at_once (image p)) u) (sym high) (penalty_relaxes link p fit scope allowed))

pub made_stays : (link : BitsLink) (p : ProblemContent) (third : KeptTable) (threshold : ℤ)
    → Fits link p → third ≡ kept_at_once (image p) → threshold ≡ upper p
    → StaysAbove (problems.form_of p) (tables.form_of third.content) (first_bits link) (pos 1)
    (record { scale = pos 1; offset = pos 0; threshold = threshold })
made_stays link p third threshold fit made high =
    grind (arith, nat_tests, ints, penalty_stays link p fit)

pub threshold_within : (p : ProblemContent) (threshold : ℤ) → Admits p → threshold ≡ upper p
    → unsigned_abs threshold ≤ 2 ^ 64
threshold_within p threshold admitted high =
    grind (arith, nat_tests, ints, within_limits, upper_within)
