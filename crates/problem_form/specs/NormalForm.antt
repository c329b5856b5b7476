-- Which problem a source as written becomes.
--
-- A literal counts once. What lists a literal and its complement is dropped, and so are a product
-- of coefficient 0 and a soft clause of weight 0. Without literals, a product and a soft clause go
-- into the constant, and a hard clause stays. All else is kept as listed, and equal ones are not
-- merged.
use Rattle.std.specs.Prelude.{◌≡◌, ℕ, ℤ, pos, ◌+ℤ◌, ◌-ℤ◌, Bool, true, false, ◌||◌, List, [], ◌∷◌, ◌++◌, map, fold, Option, Some, None, if◌then◌else◌, ◌==◌}
use Rattle.std.specs.List.{flat_map}
use Rattle.std.specs.Ordering.{int_eq}
use Rattle.base.specs.Sums.{total_by}
use Rattle.literal_lists.specs.declared.literal.Literal.{Literal}
use Rattle.problem_form.specs.declared.terms.Product.{Product}
use Rattle.problem_form.specs.declared.terms.Clause.{Clause}
use Rattle.problem_form.specs.declared.terms.Constraint.{Constraint}
use Rattle.literal_lists.specs.Literals.{has_clash, literal_set}
use Rattle.problem_form.specs.Problems.{ProblemContent, problem_cost, no_penalties, soft_weight}
use Rattle.problem_form.specs.declared.penalties.PartPenalties.{PartPenalties}
use Rattle.problem_form.specs.WeighedLists.{marked}

-- a list without elements
abbrev pub is_empty : {A : Type 0} → List A → Bool
is_empty [] = true
is_empty (a ∷ others) = false

-- ---- products

-- a product in normal form, or none where it is dropped
abbrev pub kept_product : Product → List Product
kept_product t =
    if has_clash t.literals || int_eq t.coefficient (pos 0) || is_empty t.literals
    then []
    else record t { literals = literal_set t.literals } ∷ []

-- what a product adds to the constant: the coefficient of one without literals
abbrev pub product_constant : Product → ℤ
product_constant t = if is_empty t.literals then t.coefficient else pos 0

-- ---- clauses

-- a soft clause that is dropped, or goes into the constant
abbrev pub is_plain_cost : Option ℕ → List Literal → Bool
is_plain_cost None literals = false
is_plain_cost (Some weight) literals = (weight == 0) || is_empty literals

-- a clause in normal form, or none where it is dropped
abbrev pub kept_clause : Clause → List Clause
kept_clause c =
    if has_clash c.literals || is_plain_cost c.weight c.literals
    then []
    else record c { literals = literal_set c.literals } ∷ []

-- what a clause adds to the constant: the weight of a soft one without literals
abbrev pub clause_constant : Clause → ℤ
clause_constant c = if is_empty c.literals then pos (soft_weight c) else pos 0

-- ---- constraints, whose constants go into the bound

-- a constraint in normal form, whose bound is less by the constants of its sum
abbrev pub normal_constraint : Constraint → Constraint
normal_constraint k = record k {
  products = flat_map kept_product k.products;
  bound = k.bound -ℤ total_by product_constant k.products;
}

-- ---- the whole

-- the problem in normal form
abbrev pub normal_form : ProblemContent → ProblemContent
normal_form p = record p {
  constant = p.constant
      +ℤ total_by product_constant p.objective
      +ℤ total_by clause_constant p.clauses;
  objective = flat_map kept_product p.objective;
  clauses = flat_map kept_clause p.clauses;
  constraints = map normal_constraint p.constraints;
}

-- the normal form costs what the problem as written costs, under every assignment
abbrev pub NormalFormKeepsCosts : Type 0
NormalFormKeepsCosts =
    (p : ProblemContent) (x : List Bool) → problem_cost (normal_form p) x ≡ problem_cost p x

-- ---- part by part

-- a problem of no variables that says nothing
abbrev pub blank : ProblemContent
blank = record {
  variables = 0;
  constant = pos 0;
  objective = [];
  clauses = [];
  constraints = [];
  most = None;
  penalties = no_penalties;
}

-- a problem with so many variables
abbrev pub with_variables : ProblemContent → ℕ → ProblemContent
with_variables p variables = record p { variables = variables }

-- a problem whose assignments may cost at most this, where it is given
abbrev pub with_most : ProblemContent → Option ℤ → ProblemContent
with_most p most = record p { most = most }

-- a problem whose hard parts have these penalties of their own
abbrev pub with_penalties : ProblemContent → PartPenalties → ProblemContent
with_penalties p penalties = record p { penalties = penalties }

-- a problem in normal form, with one more product as written
abbrev pub with_product : ProblemContent → Product → ProblemContent
with_product p t = record p {
  constant = p.constant +ℤ product_constant t;
  objective = p.objective ++ kept_product t;
}

-- a problem in normal form, with one more clause as written
abbrev pub with_clause : ProblemContent → Clause → ProblemContent
with_clause p c = record p {
  constant = p.constant +ℤ clause_constant c;
  clauses = p.clauses ++ kept_clause c;
}

-- a problem in normal form, with one more constraint as written
abbrev pub with_constraint : ProblemContent → Constraint → ProblemContent
with_constraint p k = record p { constraints = p.constraints ++ normal_constraint k ∷ [] }

-- a problem with those of its constraints that are marked
abbrev pub with_marked : ProblemContent → List Bool → ProblemContent
with_marked p marks = record p { constraints = marked marks p.constraints }

-- what a source says, one after the other: how many variables there are, and what is added
pub data Part : Type 0 where
  Widened : ℕ → Part
  AddedProduct : Product → Part
  AddedClause : Clause → Part
  AddedConstraint : Constraint → Part

-- a problem in normal form, with one more part
abbrev pub with_part : ProblemContent → Part → ProblemContent
with_part p (Widened variables) = with_variables p variables
with_part p (AddedProduct t) = with_product p t
with_part p (AddedClause c) = with_clause p c
with_part p (AddedConstraint k) = with_constraint p k

-- a problem as written, with one more part
abbrev pub as_written : ProblemContent → Part → ProblemContent
as_written p (Widened variables) = with_variables p variables
as_written p (AddedProduct t) = record p { objective = p.objective ++ t ∷ [] }
as_written p (AddedClause c) = record p { clauses = p.clauses ++ c ∷ [] }
as_written p (AddedConstraint k) = record p { constraints = p.constraints ++ k ∷ [] }

-- parts that are added one by one give the normal form of the source as written
abbrev pub PartsAddUp : Type 0
PartsAddUp =
    (parts : List Part) → fold with_part blank parts ≡ normal_form (fold as_written blank parts)
