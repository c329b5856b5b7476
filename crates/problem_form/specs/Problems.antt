-- What a problem says, as it is written or in normal form: its cost and its sizes.
use Rattle.std.specs.Prelude.{◌≡◌, ◌≢◌, ℕ, ◌+◌, ◌^◌, ◌<◌, ℤ, pos, ◌+ℤ◌, neg_ℤ, unsigned_abs, int_lt, Bool, not, ◌&&◌, ◌||◌, List, [], length, Some, None, unwrap_or, is_none, All, if◌then◌else◌}
use Rattle.std.specs.declared.option.Option.{Option}
use Rattle.std.specs.List.{list_any, sum_by}
use Rattle.std.specs.Ordering.{int_eq}
use Rattle.base.specs.Sums.{total_by, if_so}
use Rattle.base.specs.declared.costs.Cost.{Cost}
use Rattle.base.specs.declared.costs.Cost.TheVariants.{Whole, Infinite}
use Rattle.base.specs.Costs.{Form}
use Rattle.problem_form.specs.declared.terms.Product.{Product}
use Rattle.problem_form.specs.declared.terms.Clause.{Clause}
use Rattle.problem_form.specs.declared.terms.Constraint.{Constraint}
use Rattle.problem_form.specs.declared.penalties.PartPenalties.{PartPenalties}
use Rattle.literal_lists.specs.Literals.{all_hold, some_holds, IsLiteralSet}

-- no part has a penalty of its own
abbrev pub no_penalties : PartPenalties
no_penalties = record { clauses = []; constraints = [] }

-- variables, a constant, products that are added, clauses and constraints that are to hold, where
-- there is one the most that an assignment may cost, and penalties of the parts that are to hold,
-- which change no cost
pub record ProblemContent : Type 0 where
  pub variables : ℕ
  pub constant : ℤ
  pub objective : List Product
  pub clauses : List Clause
  pub constraints : List Constraint
  pub most : Option ℤ
  pub penalties : PartPenalties

-- ---- its cost

-- a product counts where all its literals are true
abbrev pub product_value : List Bool → Product → ℤ
product_value x t = if_so (all_hold x t.literals) t.coefficient

-- a product with the other sign
abbrev pub negated : Product → Product
negated t = record t { coefficient = neg_ℤ t.coefficient }

-- the sum of the coefficients of the products that count
abbrev pub sum_of : List Bool → List Product → ℤ
sum_of x products = total_by (product_value x) products

-- no literal of the clause is true
abbrev pub is_violated : List Bool → Clause → Bool
is_violated x c = not (some_holds x c.literals)

-- the weight of a soft clause, and 0 for a hard one
abbrev pub soft_weight : Clause → ℕ
soft_weight c = unwrap_or c.weight 0

-- a soft clause costs its weight where it is violated
abbrev pub soft_cost : List Bool → Clause → ℤ
soft_cost x c = if_so (is_violated x c) (pos (soft_weight c))

-- a hard clause that is violated
abbrev pub fails_hard : List Bool → Clause → Bool
fails_hard x c = is_none c.weight && is_violated x c

-- the sum is to be the bound where the constraint is exact, and at least the bound elsewhere
abbrev pub fails : List Bool → Constraint → Bool
fails x k =
    if k.exact
    then not (int_eq (sum_of x k.products) k.bound)
    else int_lt (sum_of x k.products) k.bound

-- infinite where a hard clause or a constraint fails; else the constant, the true products and the
-- violated soft clauses
abbrev pub own_cost : ProblemContent → List Bool → Cost
own_cost p x =
    if list_any (fails_hard x) p.clauses || list_any (fails x) p.constraints
    then Infinite
    else Whole (p.constant +ℤ sum_of x p.objective +ℤ total_by (soft_cost x) p.clauses)

-- a cost that is whole and above the most that is given is infinite
abbrev pub cut_off : Option ℤ → Cost → Cost
cut_off None c = c
cut_off (Some most) Infinite = Infinite
cut_off (Some most) (Whole v) = if int_lt most v then Infinite else Whole v

-- what the problem says, and infinite above the most that an assignment may cost
abbrev pub problem_cost : ProblemContent → List Bool → Cost
problem_cost p x = cut_off p.most (own_cost p x)

-- the problem as a form: its bits and its cost
abbrev pub form_of : ProblemContent → Form
form_of p = record { bits = p.variables; cost = problem_cost p }

-- ---- its sizes

-- the sum of the sizes of the coefficients
abbrev pub products_total : List Product → ℕ
products_total products = sum_by (λ t. unsigned_abs t.coefficient) products

-- the sizes of the coefficients and of the bound
abbrev pub constraint_total : Constraint → ℕ
constraint_total k = products_total k.products + unsigned_abs k.bound

-- the sum of the sizes of all its numbers
abbrev pub problem_total : ProblemContent → ℕ
problem_total p =
    unsigned_abs p.constant + products_total p.objective + sum_by soft_weight p.clauses
    + sum_by constraint_total p.constraints

-- the square of the degree of each product
abbrev pub products_size : List Product → ℕ
products_size products = sum_by (λ t. length t.literals ^ 2) products

-- its variables, 1 for a constant, and the square of the degree of each product and clause
abbrev pub problem_size : ProblemContent → ℕ
problem_size p =
    p.variables + (if int_eq p.constant (pos 0) then 0 else 1) + products_size p.objective
    + sum_by (λ c. length c.literals ^ 2) p.clauses
    + sum_by (λ k. products_size k.products) p.constraints

-- ---- its normal form, as a condition

-- a product has a literal set that is not empty, and its coefficient is not 0
pub record IsNormalProduct (variables : ℕ) (t : Product) : Type 0 where
  pub set : IsLiteralSet variables t.literals
  pub filled : t.literals ≢ []
  pub nonzero : t.coefficient ≢ pos 0

-- a hard clause may be empty, and a soft one has a weight and literals
pub record IsNormalClause (variables : ℕ) (c : Clause) : Type 0 where
  pub set : IsLiteralSet variables c.literals
  pub weighty : (w : ℕ) → c.weight ≡ Some w → (0 < w) × (c.literals ≢ [])

-- all products, clauses and constraints are in normal form, and the most is a number of 64 bits
pub record IsNormal (p : ProblemContent) : Type 0 where
  pub objective : All (IsNormalProduct p.variables) p.objective
  pub clauses : All (IsNormalClause p.variables) p.clauses
  pub constraints : All (λ k. All (IsNormalProduct p.variables) k.products) p.constraints
  pub most : (n : ℤ) → p.most ≡ Some n → unsigned_abs n < 2 ^ 64
