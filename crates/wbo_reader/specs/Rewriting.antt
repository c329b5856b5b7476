-- The problem that a source of soft constraints is rewritten to: a bit for each soft constraint,
-- which costs its weight where it is 1, and where it is 1 the constraint need not hold.
use Rattle.std.specs.Prelude.{◌≡◌, ℕ, suc, ◌+◌, ℤ, pos, ◌-ℤ◌, neg_ℤ, int_le, int_lt, nat_le, Bool, true, false, List, [], ◌∷◌, ◌++◌, length, map, take, Option, Some, None, if◌then◌else◌}
use Rattle.std.specs.List.{flat_map, sum_by}
use Rattle.base.specs.Sums.{positive_part}
use Rattle.base.specs.Costs.{IsOf}
use Rattle.form_steps.specs.Relations.{Rewrites}
use Rattle.problem_form.specs.declared.terms.Product.{Product}
use Rattle.problem_form.specs.declared.terms.Constraint.{Constraint}
use Rattle.problem_form.specs.Problems.{ProblemContent, fails, negated, problem_cost, problem_size}
use Rattle.problem_form.specs.Problems as problems
use Rattle.problem_form.specs.Limits.{cost_size, least_sum, lesser_most, own_upper, upper}
use Rattle.problem_form.specs.NormalForm.{blank, with_most, with_variables}
use Rattle.opb_reader.specs.declared.operator.Operator.TheVariants.{AtMost}
use Rattle.opb_reader.specs.Cost.{compared}
use Rattle.problem_form.specs.Fields.{IsSound}
use Rattle.wbo_reader.specs.declared.soft.Soft.{Soft}
use Rattle.wbo_reader.specs.Wbo.{WboContent, wbo_cost, form_of, IsNormalSource, IsWbo}

-- ---- its bits

-- the product of the variable alone
abbrev pub bit_product : ℕ → ℤ → Product
bit_product v c =
    record { literals = record { variable = v; negated = false } ∷ []; coefficient = c }

-- the weight of each soft constraint, on the bits from v on
abbrev pub weighed_bits : ℕ → List Soft → List Product
weighed_bits v [] = []
weighed_bits v (s ∷ soft) = bit_product v (pos s.weight) ∷ weighed_bits (suc v) soft

-- ---- its constraints

-- a coefficient where it is negative, and 0 elsewhere
abbrev pub least_part : ℤ → ℤ
least_part c = neg_ℤ (pos (positive_part (neg_ℤ c)))

-- the sum is to be at least the bound, or the bit to be 1; the sum is enough by itself where it
-- can't be less
abbrev pub eased : ℕ → List Product → ℤ → Constraint
eased v products bound = record {
  products =
      if int_le bound (least_sum products)
      then products
      else products ++ bit_product v (bound -ℤ least_sum products) ∷ [];
  bound = bound;
  exact = false;
}

-- what stands for a constraint with the bit v: two for one that is exact
abbrev pub eased_row : ℕ → Constraint → List Constraint
eased_row v k =
    if k.exact
    then eased v k.products k.bound ∷ eased v (map negated k.products) (neg_ℤ k.bound) ∷ []
    else eased v k.products k.bound ∷ []

-- what stands for each soft constraint, with the bits from v on
abbrev pub eased_rows : ℕ → List Soft → List (List Constraint)
eased_rows v [] = []
eased_rows v (s ∷ soft) = eased_row v s.constraint ∷ eased_rows (suc v) soft

-- a hard constraint stands for itself
abbrev pub hard_rows : List Constraint → List (List Constraint)
hard_rows hard = map (λ k. k ∷ []) hard

-- two lists put together in an order: true for the next of the second, and at the end of the order
-- what is left
abbrev pub merged : {A : Type 0} → List Bool → List A → List A → List A
merged [] first second = first ++ second
merged (true ∷ order) first [] = first
merged (true ∷ order) first (b ∷ second) = b ∷ merged order first second
merged (false ∷ order) [] second = second
merged (false ∷ order) (a ∷ first) second = a ∷ merged order first second

-- the elements of lists, one list after another
abbrev pub all_of : {A : Type 0} → List (List A) → List A
all_of rows = flat_map (λ row. row) rows

-- the constraints in the order of the text
abbrev pub rows_of : WboContent → List Constraint
rows_of s = all_of (merged s.order (hard_rows s.hard) (eased_rows s.variables s.soft))

-- a problem with more products in its objective
abbrev pub with_products : ProblemContent → List Product → ProblemContent
with_products p ts = record p { objective = p.objective ++ ts }

-- a problem with more constraints
abbrev pub with_rows : ProblemContent → List Constraint → ProblemContent
with_rows p ks = record p { constraints = p.constraints ++ ks }

-- the problem with a bit for each soft constraint, without what the top asks for
abbrev pub untopped : WboContent → ProblemContent
untopped s = record (with_variables blank (s.variables + length s.soft)) {
  objective = weighed_bits s.variables s.soft;
  constraints = rows_of s;
}

-- ---- its top

-- one less than the top, where a sum reaches it
abbrev pub top_bound : Option ℕ → ℕ → Option ℤ
top_bound None sum = None
top_bound (Some top) sum = if nat_le top sum then Some (pos top -ℤ pos 1) else None

-- the most that the weights of the bits that are 1 may sum to, where the top says anything
abbrev pub top_most : WboContent → Option ℤ
top_most s = top_bound s.top (sum_by (λ k. k.weight) s.soft)

-- the same for a problem whose objective has the weights alone
abbrev pub most_within : ProblemContent → Option ℕ → Option ℤ
most_within p None = None
most_within p (Some top) =
    if int_lt (own_upper p) (pos top) then None else Some (pos top -ℤ pos 1)

-- the constraint that products sum to at most this, where it is given
abbrev pub at_most : Option ℤ → List Product → List Constraint
at_most None products = []
at_most (Some most) products = compared AtMost products most ∷ []

-- the constraint of the top of a problem whose objective has the weights alone
abbrev pub top_row : ProblemContent → ℕ → List Constraint
top_row p top = at_most (most_within p (Some top)) p.objective

-- the problem with a bit for each soft constraint, and last the constraint of the top, where it says
-- anything
abbrev pub rewritten : WboContent → ProblemContent
rewritten s = with_rows (untopped s) (at_most (top_most s) (weighed_bits s.variables s.soft))

-- the problem with a bit for each soft constraint, and a bound in place of the top's constraint
abbrev pub rewritten_within : WboContent → ProblemContent
rewritten_within s = with_most (untopped s) (top_most s)

-- the problem with a bit for each soft constraint, with the top as a bound or as a constraint
abbrev pub topped : Bool → WboContent → ProblemContent
topped within s = if within then rewritten_within s else rewritten s

-- ---- its assignments

-- the assignment, and which soft constraints fail under it
abbrev pub extended : WboContent → List Bool → List Bool
extended s x = x ++ map (λ k. fails x k.constraint) s.soft

-- ---- laws

-- the rewritten problem stands for the source
abbrev pub RewritesItsSource : Type 0
RewritesItsSource =
    (s : WboContent) → IsNormalSource s → Rewrites (form_of s) (problems.form_of (rewritten s))

-- the extension of an assignment begins with it, has a bit for each soft constraint, and costs what
-- it does, also where that is infinite
pub record IsCarried (s : WboContent) (x : List Bool) : Type 0 where
  pub width : IsOf (problems.form_of (rewritten s)) (extended s x)
  pub begins : take s.variables (extended s x) ≡ x
  pub costs : problem_cost (rewritten s) (extended s x) ≡ wbo_cost s x

-- every assignment is carried to the rewritten problem
abbrev pub CarriesAssignments : Type 0
CarriesAssignments =
    (s : WboContent) → IsNormalSource s → (x : List Bool) → IsOf (form_of s) x → IsCarried s x

-- with the top as a bound the problem has the same variables and, without a most, the same bounds of the
-- costs; and whatever the most is, each assignment costs the same
pub record IsWithin (s : WboContent) : Type 0 where
  pub variables : (rewritten_within s).variables ≡ (rewritten s).variables
  pub size : cost_size (rewritten_within s) ≡ cost_size (rewritten s)
  pub own_upper : own_upper (rewritten_within s) ≡ own_upper (rewritten s)
  pub costs : (most : Option ℤ) (x : List Bool)
      → problem_cost (with_most (rewritten_within s) (lesser_most most (top_most s))) x
      ≡ problem_cost (with_most (rewritten s) most) x

-- the top may be a bound in place of a constraint
abbrev pub TopIsABound : Type 0
TopIsABound = (s : WboContent) → IsWithin s

-- the rewritten problem is in normal form, with sizes that a problem may have
abbrev pub RewrittenIsSound : Type 0
RewrittenIsSound = (s : WboContent) → IsWbo s → IsSound (rewritten s)

-- the upper bound of the rewritten problem is the sum of the soft weights
abbrev pub UpperIsSoftWeights : Type 0
UpperIsSoftWeights = (s : WboContent) → upper (rewritten s) ≡ pos (sum_by (λ k. k.weight) s.soft)

-- its size is that of the rewritten problem
abbrev pub wbo_size : WboContent → ℕ
wbo_size s = problem_size (rewritten s)
