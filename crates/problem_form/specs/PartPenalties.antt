-- Hard parts with penalties of their own, in the place of that of the whole problem.
--
-- The penalty of the whole lifts whatever breaks a part above every whole cost. A part can do with
-- less where each assignment that breaks it can be mended at a gain: some literal, made true, takes
-- the cost with its penalties down. So lists of penalties are enough where this holds of every
-- assignment that breaks parts of such penalties alone.
use Rattle.std.specs.Prelude.{◌≡◌, ℕ, ◌*◌, ◌^◌, ◌<◌, ◌==◌, min, ℤ, pos, ◌+ℤ◌, ◌-ℤ◌, ◌<ℤ◌, unsigned_abs, Bool, true, false, not, ◌&&◌, ◌||◌, List, [], ◌∷◌, length, unwrap_or, slice_set, if◌then◌else◌}
use Rattle.std.specs.List.{list_any}
use Rattle.base.specs.Sums.{if_so, positive_part}
use Rattle.literal_lists.specs.declared.literal.Literal.{Literal}
use Rattle.literal_lists.specs.Literals.{holds}
use Rattle.problem_form.specs.declared.terms.Clause.{Clause}
use Rattle.problem_form.specs.declared.terms.Constraint.{Constraint}
use Rattle.problem_form.specs.Problems.{ProblemContent, no_penalties, sum_of, is_violated, fails_hard, fails}
use Rattle.problem_form.specs.Limits.{penalty}

-- ---- the penalty of each part

-- the penalty of the first part: its own where one is listed that is less, else that of the whole
abbrev pub own : ℕ → List ℕ → ℕ
own n [] = n
own n (m ∷ ms) = min m n

-- the penalties of the parts after the first one; past the end of a list there are none
abbrev pub rest : List ℕ → List ℕ
rest [] = []
rest (m ∷ ms) = ms

-- ---- the cost with penalties

-- how far the sum of a constraint is below its bound or, where it is exact, from it
abbrev pub missing : List Bool → Constraint → ℕ
missing x k =
    if k.exact
    then unsigned_abs (sum_of x k.products -ℤ k.bound)
    else positive_part (k.bound -ℤ sum_of x k.products)

-- a clause adds its weight where it is violated, and a hard one its penalty
abbrev pub clause_prices : List Bool → ℕ → List ℕ → List Clause → ℤ
clause_prices x n ns [] = pos 0
clause_prices x n ns (c ∷ cs) =
    if_so (is_violated x c) (pos (unwrap_or c.weight (own n ns))) +ℤ clause_prices x n (rest ns) cs

-- a constraint adds its penalty times the square of what is missing
abbrev pub constraint_prices : List Bool → ℕ → List ℕ → List Constraint → ℤ
constraint_prices x n ns [] = pos 0
constraint_prices x n ns (k ∷ ks) =
    pos (own n ns * missing x k ^ 2) +ℤ constraint_prices x n (rest ns) ks

-- what an assignment costs where parts that are broken add their penalties: the constant, the true
-- products, and what clauses and constraints add. It is the least energy over all added bits
abbrev pub priced_cost : ProblemContent → List Bool → ℤ
priced_cost p x =
    p.constant +ℤ sum_of x p.objective
    +ℤ clause_prices x (penalty p) p.penalties.clauses p.clauses
    +ℤ constraint_prices x (penalty p) p.penalties.constraints p.constraints

-- ---- what is broken

-- some hard clause or some constraint is broken
abbrev pub breaks_part : ProblemContent → List Bool → Bool
breaks_part p x = list_any (fails_hard x) p.clauses || list_any (fails x) p.constraints

-- some part is broken that has the whole penalty
abbrev pub some_whole : {A : Type 0} → (A → Bool) → ℕ → List ℕ → List A → Bool
some_whole broken n ns [] = false
some_whole broken n ns (a ∷ others) =
    (broken a && (own n ns == n)) || some_whole broken n (rest ns) others

-- some hard clause or some constraint is broken that has the penalty of the whole problem
abbrev pub breaks_whole : ProblemContent → List Bool → Bool
breaks_whole p x =
    some_whole (fails_hard x) (penalty p) p.penalties.clauses p.clauses
    || some_whole (fails x) (penalty p) p.penalties.constraints p.constraints

-- ---- enough

-- the assignment with this literal true
abbrev pub made_true : List Bool → Literal → List Bool
made_true x l = slice_set x l.variable (not l.negated)

-- a literal of the problem's variables that is false; when made true it breaks no part that has the
-- penalty of the whole, and takes the cost with penalties down by 1 or more
pub record Mends (p : ProblemContent) (x : List Bool) (l : Literal) : Type 0 where
  pub within : l.variable < p.variables
  pub untrue : holds x l ≡ false
  pub whole : breaks_whole p (made_true x l) ≡ false
  pub less : priced_cost p (made_true x l) <ℤ priced_cost p x

-- whatever breaks parts, but none that has the penalty of the whole, can be mended by some literal
abbrev pub AreEnough : ProblemContent → Type 0
AreEnough p =
    (x : List Bool) → length x ≡ p.variables → breaks_part p x ≡ true
    → breaks_whole p x ≡ false → (l : Literal) × Mends p x l

-- no part has a penalty of its own
abbrev pub IsGlobal : ProblemContent → Type 0
IsGlobal p = p.penalties ≡ no_penalties
