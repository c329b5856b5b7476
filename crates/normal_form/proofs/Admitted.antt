-- What the guard makes of a problem that it admits.
use Rattle.normal_form.proofs.Common.{nat_tests, ◌≡◌, ◌+◌, ◌≤◌, ◌^◌, pos, ap, arith, All, All-from_recursion, recursion_from_All, Figures, BitsLink, first_bits, PenaltyScope, RelaxesBy, StaysAbove, subst, sym, ProblemContent, Term, terms_total, KeptTable, kept_at_once, table_size, complements, contributions, terms_total-with_additions, All-with_additions, contributions-grow, expanded, image, Admits, multilinear_relaxes, multilinear_stays}
use Rattle.problem_form.specs.Problems as problems
use Rattle.term_table.specs.Tables as tables
use Rattle.penalty_layer.specs.Penalty as penalty
use Rattle.normal_form.proofs.Limits.{within_limits}
use Rattle.normal_form.proofs.Complements.{few-contributions}
use Rattle.normal_form.proofs.Sizes.{size_within}

-- the penalty method's table has few complements
pub few-image : (p : ProblemContent) (t : KeptTable) → Admits p
    → t ≡ kept_at_once (penalty.image p) → All (λ (u : Term). complements u.0 ≤ 8) t.content.terms
few-image p t admitted made =
    rw made (All-with_additions (λ ls. complements ls ≤ 8) (penalty.contributions p)
    (All-from_recursion _ (penalty.contributions p)
    (few-contributions p (within_limits p admitted.within).negations)))

-- multiplied out it is at most 256 times as great
pub total-expanded : (t made : KeptTable) → All (λ (u : Term). complements u.0 ≤ 8) t.content.terms
    → terms_total t.content.terms + 1 ≤ 2 ^ 64 → made ≡ kept_at_once (expanded t.content)
    → terms_total made.content.terms + 1 ≤ 2 ^ 72
total-expanded t made few small same =
    let most = recursion_from_All (λ (u : Term). complements u.0 ≤ 8) t.content.terms few in
    let size = ap (λ (s : KeptTable). terms_total s.content.terms) same in
    let added = terms_total-with_additions (contributions t.content.terms) in
    omega (arith, small, size, added, contributions-grow 8 t.content.terms most)

-- what is equal to the image relaxes the problem, with figures that are equal to the guard's
pub relaxes-made : (link : BitsLink) (p : ProblemContent) (made : KeptTable) (n : Figures)
    → penalty.Fits link p → made ≡ kept_at_once (image p) → n ≡ penalty.figures p
    → (scope : PenaltyScope) → penalty.Allows scope p
    → RelaxesBy scope (problems.form_of p) (tables.form_of made.content) (first_bits link) (pos 1) n
relaxes-made link p made n fits same figures scope allowed =
    let Relaxed : KeptTable → Figures → Type 0 =
    λ t m. RelaxesBy scope (problems.form_of p) (tables.form_of t.content) (first_bits link) (pos 1) m in
    subst (λ t. Relaxed t n) (sym same)
    (subst (λ m. Relaxed (kept_at_once (image p)) m) (sym figures) (multilinear_relaxes link p fits scope allowed))

-- and no state of it lies below the whole cost that it decodes to
pub stays-made : (link : BitsLink) (p : ProblemContent) (made : KeptTable) (n : Figures)
    → penalty.Fits link p → made ≡ kept_at_once (image p) → n ≡ penalty.figures p
    → StaysAbove (problems.form_of p) (tables.form_of made.content) (first_bits link) (pos 1) n
stays-made link p made n fits same figures =
    grind (arith, nat_tests, multilinear_stays link p fits)

pub size-made : (p : ProblemContent) (made : KeptTable) → Admits p
    → made ≡ kept_at_once (image p) → table_size made.content ≤ 2 ^ 26
size-made p made admitted same = rw same (size_within p admitted.within)
