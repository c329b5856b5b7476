-- The table of a problem relaxes it, and extensions are least. Nothing here has to be believed.
--
-- The table costs what the problem's own cost is, where that is whole, and the squares. Where a part
-- is broken that has the penalty of the whole, it adds at least this, which lifts the least cost
-- above the threshold. Where only others are broken, some literal after another mends them, and each
-- takes the cost with penalties down. A cost above the most is above the threshold by itself.
use Rattle.std.specs.Prelude.{◌≡◌, ◌⊎◌, ◌+ℤ◌, ◌-ℤ◌, ◌*ℤ◌, ◌≤ℤ◌, ◌<ℤ◌, ◌||◌, ◌∷◌, if◌then◌else◌}
use Rattle.penalty_layer.specs.laws.Common.{ℕ, inl, inr, ℤ, pos, int_lt, Bool, true, false, cond, Option, Some, None, List, length, map, take, refl, arith, sym, ap, ◌∙◌, subst, list_any, sum_by, flat_map, ints, take_all, length-take, length-append, take-append-le, total_by, total_by-append, Cost, Whole, Infinite, BitsLink, IsNeverInfinite, Relaxes, Joins, ExtendsLeast, first_bits, HasFirstBits, Constraint, ProblemContent, sum_of, soft_cost, fails_hard, fails, own_cost, cut_off, problem_cost, cost_size, own_upper, lower, lesser_of, upper, penalty_above, penalty, slack_range, slack_bits, term_cost, terms_cost, terms_cost-with_additions, plain_terms, contributions, clause_terms, node_count, image, figures, extension, Fits, product_term, constraint_terms, slack_state, nat_tests, or_cases, length-flat_map, slack_of, Agrees, first_agrees, zero, suc, not, [], or_parts, unsigned_abs, Literal, IsNormal, RelaxesAtLeast, RelaxesBy, ReachesIn, StandsAt, StaysAbove, PenaltyScope, Global, Local, Allows, PartPenalties, clause_prices, priced_cost, breaks_part, breaks_whole, some_whole, made_true, AreEnough, IsGlobal, length-set}
use Rattle.penalty_layer.specs.Stated.{PricesAreLeast, GlobalIsEnough}
use Rattle.problem_form.specs.Problems as problems
use Rattle.term_table.specs.Tables as tables
use Rattle.penalty_layer.specs.laws.Violations.{clause_terms_cost, product_terms_cost, clauses_at_least, clauses_not_negative, clauses_soft, soft_costs_upper, sum_lower, sum_upper}
use Rattle.penalty_layer.specs.laws.SlackValues.{length-value_bits}
use Rattle.penalty_layer.specs.laws.Agreement.{clauses-agree, constraints-agree, sum_of-agrees, problem_cost-agrees}
use Rattle.penalty_layer.specs.laws.Broken.{squares_cost, constraint_terms-cost, squares_not_negative, squares_missing, prices_not_negative, prices_at_least, prices_zero, AreClamped, squares_zero, squares_least, squares_clamped, extension_clamped}

-- ---- the cost of the table

-- the squares of all constraints
abbrev pub squares : List Bool → ProblemContent → ℤ
squares y p = squares_cost y (penalty p) p.penalties.constraints p.variables p.constraints

-- what the clauses add
abbrev pub clauses : List Bool → ProblemContent → ℤ
clauses y p = clause_prices y (penalty p) p.penalties.clauses p.clauses

-- the terms without squares cost the constant, the objective, and the clauses with hard ones at their
-- penalties
plain_value : (y : List Bool) (p : ProblemContent)
    → terms_cost y (plain_terms p) ≡ p.constant +ℤ (sum_of y p.objective +ℤ clauses y p)
plain_value y p =
    ap (λ z. p.constant +ℤ z)
    (total_by-append (term_cost y) (map product_term p.objective)
    (clause_terms (penalty p) p.penalties.clauses p.clauses)
    ∙ (λ i. product_terms_cost y p.objective i
    +ℤ clause_terms_cost y (penalty p) p.penalties.clauses p.clauses i))

-- and the whole table costs that and the squares, since the sum of terms of one set costs what they
-- cost
image_value : (y : List Bool) (p : ProblemContent)
    → terms_cost y (image p).terms
    ≡ (p.constant +ℤ (sum_of y p.objective +ℤ clauses y p)) +ℤ squares y p
image_value y p =
    terms_cost-with_additions y (contributions p)
    ∙ total_by-append (term_cost y) (plain_terms p)
    (constraint_terms (penalty p) p.penalties.constraints p.variables p.constraints)
    ∙ (λ i. plain_value y p i
    +ℤ constraint_terms-cost y (penalty p) p.penalties.constraints p.variables p.constraints i)

-- ---- the cost with penalties

-- no state costs less than its variables with their penalties
priced_below : (y : List Bool) (p : ProblemContent)
    → priced_cost p y ≤ℤ terms_cost y (image p).terms
priced_below y p =
    omega (
      arith,
      ints,
      image_value y p,
      squares_missing y (penalty p) p.penalties.constraints p.variables p.constraints,
    )

-- nothing costs less with penalties than the least
lower_below : (y : List Bool) (p : ProblemContent) → lower p ≤ℤ priced_cost p y
lower_below y p =
    omega (
      arith,
      ints,
      sum_lower y p.objective,
      clauses_not_negative y (penalty p) p.penalties.clauses p.clauses,
      prices_not_negative y (penalty p) p.penalties.constraints p.constraints,
    )

-- what breaks a part that has the penalty of the whole costs at least the least and the penalty
whole_lifted : (y : List Bool) (p : ProblemContent) → breaks_whole p y ≡ true
    → (lower p +ℤ pos (penalty p)) ≤ℤ priced_cost p y
whole_lifted y p broken =
    let low = sum_lower y p.objective in
    let hard = clauses_not_negative y (penalty p) p.penalties.clauses p.clauses in
    let short = prices_not_negative y (penalty p) p.penalties.constraints p.constraints in
    elim (or_cases (some_whole (fails_hard y) (penalty p) p.penalties.clauses p.clauses) (some_whole (fails y) (penalty p) p.penalties.constraints p.constraints) broken) [
      | inl violated ↦ omega (arith, ints, clauses_at_least y (penalty p) p.penalties.clauses p.clauses violated)
      | inr off ↦ omega (arith, ints, prices_at_least y (penalty p) p.penalties.constraints p.constraints off)
    ]

-- The penalty lifts the least cost above the threshold. A gain and one more lift it above all that
-- there is without the most; where less does, it is lifted above the most.
lifted_above : (most : Option ℤ) (u : ℤ) (gain : ℕ)
    → lesser_of most u <ℤ ((u -ℤ pos gain) +ℤ pos (penalty_above most (u -ℤ pos gain) gain))
lifted_above None u gain = omega (arith, ints)
lifted_above (Some most) u gain = grind (arith, nat_tests, ints)

-- so what breaks such a part lies above the threshold
whole_above : (y : List Bool) (p : ProblemContent) → breaks_whole p y ≡ true
    → upper p <ℤ priced_cost p y
whole_above y p broken =
    omega (arith, ints, whole_lifted y p broken, lifted_above p.most (own_upper p) (cost_size p))

-- where no part has a penalty of its own, each has that of the whole
some_whole-all : {A : Type 0} (broken : A → Bool) (n : ℕ) (parts : List A)
    → some_whole broken n [] parts ≡ list_any broken parts
some_whole-all broken n [] = refl
some_whole-all broken n (a ∷ parts) =
    let others = some_whole-all broken n parts in grind (arith, nat_tests)

breaks_whole-global : (y : List Bool) (p : ProblemContent) → IsGlobal p
    → breaks_whole p y ≡ breaks_part p y
breaks_whole-global y p alike = λ i.
    (ap (λ (q : PartPenalties). some_whole (fails_hard y) (penalty p) q.clauses p.clauses) alike
    ∙ some_whole-all (fails_hard y) (penalty p) p.clauses) i
    || (ap (λ (q : PartPenalties). some_whole (fails y) (penalty p) q.constraints p.constraints) alike
    ∙ some_whole-all (fails y) (penalty p) p.constraints) i

-- The whole cost, of what breaks nothing. It is the constant, the objective's sum, and the weights
-- of the violated soft clauses.
abbrev pub kept_cost : List Bool → ProblemContent → ℤ
kept_cost y p = p.constant +ℤ sum_of y p.objective +ℤ total_by (soft_cost y) p.clauses

-- what breaks no hard clause costs that, and the squares
kept_value : (y : List Bool) (p : ProblemContent) → list_any (fails_hard y) p.clauses ≡ false
    → terms_cost y (image p).terms ≡ kept_cost y p +ℤ squares y p
kept_value y p h =
    omega (arith, ints, image_value y p, clauses_soft y (penalty p) p.penalties.clauses p.clauses h)

-- what breaks no part costs that with penalties
kept_priced : (y : List Bool) (p : ProblemContent) → breaks_part p y ≡ false
    → priced_cost p y ≡ kept_cost y p
kept_priced y p h =
    let parts = or_parts (list_any (fails_hard y) p.clauses) (list_any (fails y) p.constraints) h in
    omega (
      arith,
      ints,
      clauses_soft y (penalty p) p.penalties.clauses p.clauses parts.0,
      prices_zero y (penalty p) p.penalties.constraints p.constraints parts.1,
    )

-- it is at most the upper bound without the most, for every assignment
whole_below : (y : List Bool) (p : ProblemContent) → kept_cost y p ≤ℤ own_upper p
whole_below y p = omega (arith, ints, sum_upper y p.objective, soft_costs_upper y p.clauses)

-- ---- the cost of the problem, by cases

-- a cost is whole only where no hard clause and no constraint is broken
whole_is_unbroken : (a b : Bool) (u v : ℤ) → cond (a || b) Infinite (Whole u) ≡ Whole v
    → (a ≡ false) × (b ≡ false) × (u ≡ v)
whole_is_unbroken true b u v e = absurd cc
whole_is_unbroken false true u v e = absurd cc
whole_is_unbroken false false u v e = (refl, refl, cc)

-- and infinite only where one is
infinite_is_broken : (b : Bool) (u : ℤ) → cond b Infinite (Whole u) ≡ Infinite → b ≡ true
infinite_is_broken true u e = refl
infinite_is_broken false u e = absurd cc

-- a state that breaks nothing costs what the problem does and its squares; without the most its cost
-- is at most the upper bound
own_value : (y : List Bool) (p : ProblemContent) (v : ℤ) → own_cost p y ≡ Whole v
    → (terms_cost y (image p).terms ≡ v +ℤ squares y p)
    × (v ≤ℤ own_upper p)
    × (list_any (fails y) p.constraints ≡ false)
own_value y p v whole =
    let cases = whole_is_unbroken (list_any (fails_hard y) p.clauses) (list_any (fails y) p.constraints) (kept_cost y p) v whole in (
      kept_value y p cases.0 ∙ ap (λ u. u +ℤ squares y p) cases.2,
      omega (arith, ints, whole_below y p, cases.2),
      cases.1,
    )

-- ---- with the most that an assignment may cost

-- what is at most two numbers is at most the lesser of them
at_most_lesser : (most u v : ℤ) → v ≤ℤ most → v ≤ℤ u → v ≤ℤ lesser_of (Some most) u
at_most_lesser most u v low below = grind (arith, nat_tests, ints)

-- and the lesser of them is below what is above one
lesser_below : (most u v : ℤ) → most <ℤ v → lesser_of (Some most) u <ℤ v
lesser_below most u v above = grind (arith, nat_tests, ints)

-- a cost that is whole once it is cut off is whole before, and as low as what is above it
whole_is_kept : (most : Option ℤ) (c : Cost) (u v : ℤ) → cut_off most c ≡ Whole v
    → (c ≡ Whole v) × (v ≤ℤ u → v ≤ℤ lesser_of most u)
whole_is_kept None c u v e = (e, λ below. below)
whole_is_kept (Some most) Infinite u v e = absurd cc
whole_is_kept (Some most) (Whole w) u v e = go (int_lt most w) refl e
  where
    go : (over : Bool) → int_lt most w ≡ over → (if over then Infinite else Whole w) ≡ Whole v
        → (Whole w ≡ Whole v) × (v ≤ℤ u → v ≤ℤ lesser_of (Some most) u)
    go true over h = absurd cc
    go false over h =
        let same : w ≡ v = cc in
        (h, λ below. at_most_lesser most u v (omega (arith, ints, same)) below)

-- one that is infinite is infinite before, or above the threshold
infinite_is_above : (most : Option ℤ) (c : Cost) (u : ℤ) → cut_off most c ≡ Infinite
    → (c ≡ Infinite) ⊎ ((v : ℤ) × (c ≡ Whole v) × (lesser_of most u <ℤ v))
infinite_is_above None c u e = inl e
infinite_is_above (Some most) Infinite u e = inl refl
infinite_is_above (Some most) (Whole w) u e = go (int_lt most w) refl e
  where
    go : (over : Bool) → int_lt most w ≡ over → (if over then Infinite else Whole w) ≡ Infinite
        → (Whole w ≡ Infinite) ⊎ ((v : ℤ) × (Whole w ≡ Whole v) × (lesser_of (Some most) u <ℤ v))
    go true over h = inr (w, refl, lesser_below most u w (omega (arith, ints)))
    go false over h = absurd cc

-- a state of whole cost costs that and its squares; the cost is at most the threshold
whole_value : (y : List Bool) (p : ProblemContent) (v : ℤ) → problem_cost p y ≡ Whole v
    → (terms_cost y (image p).terms ≡ v +ℤ squares y p)
    × (v ≤ℤ upper p)
    × (list_any (fails y) p.constraints ≡ false)
whole_value y p v whole =
    let kept = whole_is_kept p.most (own_cost p y) (own_upper p) v whole in
    let value = own_value y p v kept.0 in
    (value.0, kept.1 value.1, value.2)

-- a state of infinite cost lies above the threshold, where no part has a penalty of its own
infinite_value : (y : List Bool) (p : ProblemContent) → IsGlobal p → problem_cost p y ≡ Infinite
    → upper p <ℤ terms_cost y (image p).terms
infinite_value y p alike infinite =
    elim (infinite_is_above p.most (own_cost p y) (own_upper p) infinite) [
      | inl broken ↦ omega (
        arith,
        ints,
        whole_above y p (breaks_whole-global y p alike ∙ infinite_is_broken _ _ broken),
        priced_below y p,
      )
      | inr over ↦ omega (
        arith,
        ints,
        (own_value y p over.0 over.1).0,
        squares_not_negative y (penalty p) p.penalties.constraints p.variables p.constraints,
        over.2,
      )
    ]

-- ---- where penalties are enough

-- by the value of a test
by_test : {P : Type 0} (b : Bool) → (b ≡ true → P) → (b ≡ false → P) → P
by_test true holds fails' = holds refl
by_test false holds fails' = fails' refl

-- a whole cost stays whole once it is cut off, or lies above the threshold
cut_whole : (most : Option ℤ) (u v : ℤ)
    → (cut_off most (Whole v) ≡ Whole v) ⊎ (lesser_of most u <ℤ v)
cut_whole None u v = inl refl
cut_whole (Some most) u v = go (int_lt most v) refl
  where
    go : (over : Bool) → int_lt most v ≡ over
        → ((if over then Infinite else Whole v) ≡ Whole v) ⊎ (lesser_of (Some most) u <ℤ v)
    go true over = inr (lesser_below most u v (omega (arith, ints)))
    go false over = inl refl

-- what breaks no part has a whole cost, or one above the threshold
kept_stands : (x : List Bool) (p : ProblemContent) → breaks_part p x ≡ false
    → (problem_cost p x ≡ Whole (kept_cost x p)) ⊎ (upper p <ℤ kept_cost x p)
kept_stands x p kept =
    let whole : own_cost p x ≡ Whole (kept_cost x p) =
    ap (λ b. if b then Infinite else Whole (kept_cost x p)) kept in
    elim (cut_whole p.most (own_upper p) (kept_cost x p)) [
      | inl same ↦ inl (ap (cut_off p.most) whole ∙ same)
      | inr over ↦ inr over
    ]

length-made_true : (x : List Bool) (l : Literal) → length (made_true x l) ≡ length x
length-made_true x l = length-set x l.variable (not l.negated)

-- What breaks parts, but none that has the penalty of the whole, is mended step by step: each takes
-- the cost with penalties down, which is no less than the least, so in the end no part is broken.
mended : (p : ProblemContent) → AreEnough p → (n : ℕ) (x : List Bool) → length x ≡ p.variables
    → breaks_part p x ≡ true → breaks_whole p x ≡ false → priced_cost p x ≤ℤ (lower p +ℤ pos n)
    → (x' : List Bool) × (length x' ≡ p.variables) × (breaks_part p x' ≡ false)
    × (priced_cost p x' <ℤ priced_cost p x)
mended p enough zero x w part whole low =
    let m = enough x w part whole in
    let less = m.1.less in
    absurd (omega (arith, ints, less, lower_below (made_true x m.0) p, low))
mended p enough (suc n) x w part whole low =
    let m = enough x w part whole in
    let x' = made_true x m.0 in
    let w' = length-made_true x m.0 ∙ w in
    let less = m.1.less in
    by_test (breaks_part p x') (λ broken.
    let r = mended p enough n x' w' broken m.1.whole (omega (arith, ints, low, less)) in
    let further = r.3 in
    (r.0, r.1, r.2, omega (arith, ints, further, less))) (λ kept. (x', w', kept, less))

-- so what costs as much with penalties stands at an energy: at its own whole cost, above the
-- threshold, or above another whole cost
enough_stands : (p : ProblemContent) → AreEnough p → (x : List Bool) → length x ≡ p.variables
    → (e : ℤ) → priced_cost p x ≤ℤ e → StandsAt (problems.form_of p) (figures p) x e
enough_stands p enough x w e le =
    by_test (breaks_part p x) (λ part. by_test (breaks_whole p x) (λ whole.
    inr (inl (omega (arith, ints, whole_above x p whole, le)))) (λ whole.
    let n = unsigned_abs (priced_cost p x -ℤ lower p) in
    let r = mended p enough n x w part whole (omega (arith, ints)) in
    let less = r.3 in
    let same = kept_priced r.0 p r.2 in
    elim (kept_stands r.0 p r.2) [
      | inl cost ↦ inr (inr (r.0, kept_cost r.0 p, r.1, cost, omega (arith, ints, less, same, le)))
      | inr over ↦ inr (inl (omega (arith, ints, over, less, same, le)))
    ])) (λ kept.
    let same = kept_priced x p kept in
    elim (kept_stands x p kept) [
      | inl cost ↦ inl (kept_cost x p, cost, omega (arith, ints, same, le))
      | inr over ↦ inr (inl (omega (arith, ints, over, same, le)))
    ])

-- ---- states and assignments

-- a state costs the problem what its first bits do
decoded_cost : (link : BitsLink) (p : ProblemContent) (y : List Bool) → Fits link p
    → problem_cost p ((first_bits link).decoded y) ≡ problem_cost p y
decoded_cost link p y fit =
    ap (λ n. problem_cost p (take n y)) fit.source
    ∙ problem_cost-agrees (take p.variables y) y p fit.normal (first_agrees p.variables y)

-- states that agree on the variables cost the same with penalties
priced_cost-agrees : (x y : List Bool) (p : ProblemContent) → IsNormal p → Agrees p.variables x y
    → priced_cost p x ≡ priced_cost p y
priced_cost-agrees x y p normal same =
    let n = p.variables in
    let sums = sum_of-agrees n x y p.objective same normal.objective in
    let hard = clauses-agree (penalty p) p.penalties.clauses n x y p.clauses same normal.clauses in
    let short = constraints-agree (penalty p) p.penalties.constraints n x y p.constraints same normal.constraints in
    λ i. p.constant +ℤ sums i +ℤ hard i +ℤ short i

-- a state agrees with the assignment that it decodes to
decoded_agrees : (link : BitsLink) (p : ProblemContent) (x y : List Bool) → Fits link p
    → (first_bits link).decoded y ≡ x → Agrees p.variables x y
decoded_agrees link p x y fit same =
    subst (λ z. Agrees p.variables z y) (ap (λ n. take n y) (sym fit.source) ∙ same)
    (first_agrees p.variables y)

-- so many slack bits stand after the assignment
length-bits : (x : List Bool) (ks : List Constraint)
    → length (flat_map (slack_state x) ks) ≡ sum_by slack_bits ks
length-bits x ks =
    length-flat_map (slack_state x) ks
    ∙ (λ i. sum_by (λ k. length-value_bits (slack_range k) (slack_of x k) i) ks)

-- the extension has a bit for each node
length-extension : (x : List Bool) (p : ProblemContent) → length x ≡ p.variables
    → length (extension p x) ≡ node_count p
length-extension x p width =
    omega (
      arith,
      width,
      length-append x (flat_map (slack_state x) p.constraints),
      length-bits x p.constraints,
    )

-- the extension decodes to the assignment that it extends
decoded_extension : (link : BitsLink) (p : ProblemContent) (x : List Bool) → Fits link p
    → length x ≡ p.variables → (first_bits link).decoded (extension p x) ≡ x
decoded_extension link p x fit width =
    let source = fit.source in
    take-append-le link.source_width x (flat_map (slack_state x) p.constraints) (omega arith)
    ∙ take_all link.source_width x (omega arith)

-- and its slack bits give each constraint the clamped slack
clamped_extension : (x : List Bool) (p : ProblemContent) → length x ≡ p.variables
    → AreClamped x (extension p x) p.variables p.constraints
clamped_extension x p width =
    subst (λ n. AreClamped x (extension p x) n p.constraints) width
    (extension_clamped x x p.constraints)

-- An assignment of whole cost is reached by its extension. So each feasible assignment is reached
-- with equality.
extension_value : (link : BitsLink) (p : ProblemContent) (x : List Bool) (v : ℤ) → Fits link p
    → length x ≡ p.variables → problem_cost p x ≡ Whole v
    → terms_cost (extension p x) (image p).terms ≡ v
extension_value link p x v fit width whole =
    let y = extension p x in
    let decoded = decoded_extension link p x fit width in
    let cost : problem_cost p y ≡ Whole v =
    sym (decoded_cost link p y fit) ∙ ap (problem_cost p) decoded ∙ whole in
    let value = whole_value y p v cost in
    let none =
    squares_zero x y (penalty p) p.penalties.constraints p.variables p.variables p.constraints
    (decoded_agrees link p x y fit decoded) fit.normal.constraints value.2
    (clamped_extension x p width) in
    omega (arith, ints, value.0, none)

-- the extension costs what the assignment does with its penalties
pub extension_priced : (p : ProblemContent) (x : List Bool) → IsNormal p → length x ≡ p.variables
    → terms_cost (extension p x) (image p).terms ≡ priced_cost p x
extension_priced p x normal width =
    let y = extension p x in
    let n = p.variables in
    let link : BitsLink = record { source_width = n; target_width = node_count p } in
    let fit : Fits link p = record { source = refl; target = refl; normal = normal } in
    let same = decoded_agrees link p x y fit (decoded_extension link p x fit width) in
    omega (
      arith,
      ints,
      image_value y p,
      sum_of-agrees n x y p.objective same normal.objective,
      clauses-agree (penalty p) p.penalties.clauses n x y p.clauses same normal.clauses,
      squares_clamped x y (penalty p) p.penalties.constraints n n p.constraints same normal.constraints
          (clamped_extension x p width),
    )

-- and no state that begins with it costs less
pub prices_are_least : PricesAreLeast
prices_are_least p x normal width = (
  extension_priced p x normal width,
  λ y begins.
      let same = subst (λ z. Agrees p.variables z y) begins (first_agrees p.variables y) in
      omega (arith, ints, priced_cost-agrees x y p normal same, priced_below y p),
)

-- where no part has a penalty of its own, nothing asks to be mended
pub global_is_enough : GlobalIsEnough
global_is_enough p alike x width part whole =
    absurd (cc (part, whole, breaks_whole-global x p alike))

-- ---- the relations

-- No state costs less than the whole cost that it decodes to, whatever the penalties are.
pub penalty_stays : (link : BitsLink) (p : ProblemContent) → Fits link p
    → StaysAbove (problems.form_of p) (tables.form_of (image p)) (first_bits link) (pos 1) (figures p)
penalty_stays link p fit = record {
  bound = λ y w v whole.
      let cost = sym (decoded_cost link p y fit) ∙ whole in
      omega (
        arith,
        ints,
        (whole_value y p v cost).0,
        squares_not_negative y (penalty p) p.penalties.constraints p.variables p.constraints,
      );
}

decoded_width : (link : BitsLink) (p : ProblemContent) → Fits link p → (y : List Bool)
    → length y ≡ node_count p → length ((first_bits link).decoded y) ≡ p.variables
decoded_width link p fit y w =
    let source = fit.source in omega (arith, w, length-take link.source_width y)

-- the extension reaches each whole cost
extension_reaches : (link : BitsLink) (p : ProblemContent) → Fits link p → (x : List Bool)
    → length x ≡ p.variables → (v : ℤ) → problem_cost p x ≡ Whole v
    → ReachesIn (pos 1) (tables.form_of (image p)) (first_bits link) x (pos 1 *ℤ v +ℤ pos 0)
    (extension p x)
extension_reaches link p fit x w v whole = record {
  width = length-extension x p w;
  decodes = decoded_extension link p x fit w;
  energy = omega (arith, ints, extension_value link p x v fit w whole);
}

-- The table relaxes the problem, where no part has a penalty of its own. No state costs less than
-- what it decodes to; feasible assignments are reached; all others stay above the threshold.
penalty_global : (link : BitsLink) (p : ProblemContent) → Fits link p → IsGlobal p
    → Relaxes (problems.form_of p) (tables.form_of (image p)) (first_bits link) (pos 1) (figures p)
penalty_global link p fit alike = record {
  unit = omega (arith, ints);
  positive = omega (arith, ints);
  width = decoded_width link p fit;
  bound = (penalty_stays link p fit).bound;
  above = λ y w infinite.
      omega (arith, ints, infinite_value y p alike (sym (decoded_cost link p y fit) ∙ infinite));
  reached = λ x w v whole. (extension p x, extension_reaches link p fit x w v whole);
  below = λ x w v whole. omega (arith, ints, (whole_value x p v whole).1);
  onto = λ x w. (extension p x, length-extension x p w, decoded_extension link p x fit w);
}

-- Where parts have penalties of their own that are enough, it does so at least: what is broken can
-- be mended until a whole cost is left, or one above the threshold.
penalty_local : (link : BitsLink) (p : ProblemContent) → Fits link p → AreEnough p
    → RelaxesAtLeast (problems.form_of p) (tables.form_of (image p)) (first_bits link) (pos 1) (figures p)
penalty_local link p fit enough = record {
  unit = omega (arith, ints);
  positive = omega (arith, ints);
  width = decoded_width link p fit;
  stands = λ y w.
      let x = (first_bits link).decoded y in
      let same = priced_cost-agrees x y p fit.normal (decoded_agrees link p x y fit refl) in
      enough_stands p enough x (decoded_width link p fit y w)
      (pos 1 *ℤ terms_cost y (image p).terms) (omega (arith, ints, same, priced_below y p));
  reached = λ x w v whole. (extension p x, extension_reaches link p fit x w v whole);
  below = λ x w v whole. omega (arith, ints, (whole_value x p v whole).1);
  onto = λ x w. (extension p x, length-extension x p w, decoded_extension link p x fit w);
}

-- so in each scope that the problem's penalties allow
pub penalty_relaxes : (link : BitsLink) (p : ProblemContent) → Fits link p → (scope : PenaltyScope)
    → Allows scope p
    → RelaxesBy scope (problems.form_of p) (tables.form_of (image p)) (first_bits link) (pos 1) (figures p)
penalty_relaxes link p fit Global alike = penalty_global link p fit alike
penalty_relaxes link p fit Local enough = penalty_local link p fit enough

-- No state that decodes to an assignment costs less than its extension. Their clauses and objective
-- cost the same, and the extension's squares are least.
extension_least : (link : BitsLink) (p : ProblemContent) (x z : List Bool) → Fits link p
    → length x ≡ p.variables → (first_bits link).decoded z ≡ x
    → terms_cost (extension p x) (image p).terms ≤ℤ terms_cost z (image p).terms
extension_least link p x z fit width same =
    let y = extension p x in
    let n = p.variables in
    let at_y = decoded_agrees link p x y fit (decoded_extension link p x fit width) in
    let at_z = decoded_agrees link p x z fit same in
    let normal = fit.normal in
    omega (
      arith,
      ints,
      image_value y p,
      image_value z p,
      sum_of-agrees n x y p.objective at_y normal.objective,
      sum_of-agrees n x z p.objective at_z normal.objective,
      clauses-agree (penalty p) p.penalties.clauses n x y p.clauses at_y normal.clauses,
      clauses-agree (penalty p) p.penalties.clauses n x z p.clauses at_z normal.clauses,
      squares_least x y z (penalty p) p.penalties.constraints n n p.constraints at_y at_z normal.constraints
          (clamped_extension x p width),
    )

-- an assignment is extended by its slack bits, and nothing decoded to it lies lower
pub penalty_extends : (link : BitsLink) (p : ProblemContent) (x : List Bool) → Fits link p
    → length x ≡ p.variables
    → ExtendsLeast (problems.form_of p) (tables.form_of (image p)) (first_bits link) (figures p) x
    (extension p x)
penalty_extends link p x fit w = record {
  width = length-extension x p w;
  decodes = decoded_extension link p x fit w;
  scaled = λ v whole. omega (arith, ints, extension_value link p x v fit w whole);
  least = λ z w' same. extension_least link p x z fit w same;
}

-- a link that fits has the widths of the problem and of its image
pub penalty_joins : (link : BitsLink) (p : ProblemContent) → Fits link p
    → Joins (problems.form_of p) (tables.form_of (image p)) (first_bits link)
penalty_joins link p fit = record { source = fit.source; target = fit.target }

-- it can be decoded by
pub penalty_sound : (link : BitsLink) (p : ProblemContent) → Fits link p → HasFirstBits link
penalty_sound link p fit = let from = fit.source in let to = fit.target in omega arith

-- the costs of an image are whole
pub penalty_whole : (p : ProblemContent) → IsNeverInfinite (tables.form_of (image p))
penalty_whole p y e = cc
