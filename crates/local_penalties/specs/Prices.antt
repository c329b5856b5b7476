-- The price of a literal: the most that objective, soft clauses and parts can rise when it becomes true.
use Rattle.std.specs.Prelude.{ℕ, ◌+◌, ◌-◌, ◌*◌, ◌^◌, min, true, nat_lt, List, [], ◌∷◌, unsigned_abs, if◌then◌else◌}
use Rattle.std.specs.List.{sum_by}
use Rattle.literal_lists.specs.declared.literal.Literal.{Literal}
use Rattle.problem_form.specs.declared.terms.Product.{Product}
use Rattle.problem_form.specs.declared.terms.Clause.{Clause}
use Rattle.problem_form.specs.declared.terms.Constraint.{Constraint}
use Rattle.problem_form.specs.declared.penalties.PartPenalties.{PartPenalties}
use Rattle.problem_form.specs.PartPenalties.{own, rest}
use Rattle.problem_form.specs.Limits.{penalty}
use Rattle.problem_form.specs.Problems.{ProblemContent, soft_weight}
use Rattle.local_penalties.specs.Hurting.{hurts_clause, hurts_constraint, meets, most_missing, moves}

-- what a part without a penalty of its own adds to a price: more than every penalty and every sum of
-- other prices, so that the price is infinite
abbrev pub far : ℕ
far = 2 ^ 64

-- the entry of a part that has no penalty of its own: the penalty of the whole problem
abbrev pub whole_penalty : ProblemContent → ℕ
whole_penalty p = min (penalty p) (far - 1)

-- ---- the rise

-- the most that the objective can rise by a product
abbrev pub product_rise : Literal → Product → ℕ
product_rise l t = if moves true t l then unsigned_abs t.coefficient else 0

-- the most that a soft clause can add
abbrev pub soft_rise : Literal → Clause → ℕ
soft_rise l c = if meets true c.literals l then soft_weight c else 0

-- the most that objective and soft clauses together can rise
abbrev pub rise : ProblemContent → Literal → ℕ
rise p l = sum_by (product_rise l) p.objective + sum_by (soft_rise l) p.clauses

-- ---- the parts that it hurts

-- what a part that can miss so much adds, by its own penalty, which is less than that of the whole
abbrev pub charge : ℕ → ℕ → ℕ → ℕ
charge n m missing = if nat_lt m n then m * missing ^ 2 else far

-- what the clauses that it hurts add, with these penalties
abbrev pub clause_charges : ℕ → List ℕ → List Clause → Literal → ℕ
clause_charges n ns [] l = 0
clause_charges n ns (c ∷ cs) l =
    (if hurts_clause c l then charge n (own n ns) 1 else 0) + clause_charges n (rest ns) cs l

-- what the constraints that it hurts add
abbrev pub constraint_charges : ℕ → List ℕ → List Constraint → Literal → ℕ
constraint_charges n ns [] l = 0
constraint_charges n ns (k ∷ ks) l =
    (if hurts_constraint k l then charge n (own n ns) (most_missing k) else 0)
    + constraint_charges n (rest ns) ks l

-- the price of a literal, with the penalties found so far
abbrev pub price : ProblemContent → PartPenalties → Literal → ℕ
price p found l =
    rise p l + clause_charges (whole_penalty p) found.clauses p.clauses l
    + constraint_charges (whole_penalty p) found.constraints p.constraints l
