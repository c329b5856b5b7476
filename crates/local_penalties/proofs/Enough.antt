-- The penalties of the rule are enough: what breaks parts of such penalties alone can be mended.
use Rattle.local_penalties.proofs.Common.{◌≡◌, ℕ, zero, suc, ◌+◌, ◌-◌, ◌*◌, ◌<◌, ◌≤◌, ◌^◌, sym, subst, ◌∙◌, refl, arith, nat_tests, ints, List, [], ◌∷◌, length, Bool, true, false, cond, ◌||◌, nat_lt, ltb-true, ltb-false, list_any, sum_by-cons, ℤ, pos, ◌+ℤ◌, ◌≤ℤ◌, All, All-head, All-tail, Literal, Clause, Constraint, ProblemContent, PartPenalties, most_missing, rise, clause_charges, constraint_charges, far, whole_penalty, penalties_of, false≢true, IsNormalProduct, IsNormalClause}
use Rattle.problem_form.proofs.Common.{holds, sum_of, fails_hard, fails, is_none, count_by, penalty, reach, IsNormal, IsSound}
use Rattle.problem_form.specs.NormalForm.{with_penalties}
use Rattle.problem_form.specs.PartPenalties.{made_true, clause_prices, constraint_prices, some_whole, breaks_part, breaks_whole, AreEnough, Mends}
use Rattle.std.proofs.Math.Nat.{mul-le-mul_left}
use Rattle.local_penalties.specs.Kept.{IsWithinLimits}
use Rattle.local_penalties.proofs.Bounds.{Facts, facts, most_missing-le, square-mono}
use Rattle.local_penalties.proofs.Flips.{products-rise, missing-le}
use Rattle.local_penalties.proofs.Mending.{clauses-rise, constraints-rise, fails-missing, whole-clauses, whole-constraints}
use Rattle.local_penalties.proofs.Reasons.{ClausesMended, ConstraintsMended, mended-rule}
use Rattle.local_penalties.proofs.Found.{FoundClause, find-clause}
use Rattle.local_penalties.proofs.FoundConstraint.{FoundConstraint, find-constraint}

-- ---- a literal that mends

-- the price of a literal where the whole has this penalty
abbrev price_by : ProblemContent → ℕ → PartPenalties → Literal → ℕ
price_by p n found l =
    rise p l + clause_charges n found.clauses p.clauses l + constraint_charges n found.constraints p.constraints l

-- what products of the objective, clauses and constraints add together
abbrev added : ProblemContent → ℕ → PartPenalties → List Bool → ℤ
added p n found x =
    sum_of x p.objective +ℤ clause_prices x n found.clauses p.clauses
    +ℤ constraint_prices x n found.constraints p.constraints

-- the price but for what constraints add
abbrev elsewhere_by : ProblemContent → ℕ → PartPenalties → Literal → ℕ
elsewhere_by p n found l = rise p l + clause_charges n found.clauses p.clauses l

-- some part is broken that has the penalty of the whole
abbrev whole_broken : ProblemContent → ℕ → PartPenalties → List Bool → Bool
whole_broken p n found x =
    some_whole (fails_hard x) n found.clauses p.clauses || some_whole (fails x) n found.constraints p.constraints

-- a literal that is false, breaks no part that has the penalty of the whole, and takes what is added
-- down
record Gains (p : ProblemContent) (n : ℕ) (found : PartPenalties) (x : List Bool) : Type 0 where
  pub literal : Literal
  pub within : literal.variable < length x
  pub untrue : holds x literal ≡ false
  pub kept : whole_broken p n found (made_true x literal) ≡ false
  pub less : (added p n found (made_true x literal) +ℤ pos 1) ≤ℤ added p n found x

both-none : (a b : Bool) → a ≡ false → b ≡ false → (a || b) ≡ false
both-none a b e h = grind (arith, nat_tests)

by-clause : (p : ProblemContent) (n : ℕ) (found : PartPenalties) (x : List Bool) → n ≤ far
    → All (λ k. n * most_missing k ^ 2 ≤ far) p.constraints
    → some_whole (fails_hard x) n found.clauses p.clauses ≡ false
    → some_whole (fails x) n found.constraints p.constraints ≡ false
    → FoundClause x (price_by p n found) n found.clauses p.clauses → Gains p n found x
by-clause p n found x small squares no_clause no_constraint mends =
    let l = mends.literal in
    let products = products-rise x l p.objective mends.within in
    let constraints = constraints-rise x l n found.constraints p.constraints mends.within squares in
    record {
      literal = l;
      within = mends.within;
      untrue = mends.untrue;
      kept = both-none _ _
          (whole-clauses x l n found.clauses p.clauses mends.within no_clause (omega (arith, mends.below, mends.least, small)))
          (whole-constraints x l n found.constraints p.constraints mends.within no_constraint
          (omega (arith, mends.below, mends.least, small)));
      less = omega (arith, ints, products, constraints, mends.gain, mends.below);
    }

by-constraint : (p : ProblemContent) (n : ℕ) (found : PartPenalties) (x : List Bool) → n ≤ far
    → some_whole (fails_hard x) n found.clauses p.clauses ≡ false
    → FoundConstraint x (elsewhere_by p n found) n found.constraints p.constraints → Gains p n found x
by-constraint p n found x small no_clause mends =
    let l = mends.literal in
    let products = products-rise x l p.objective mends.within in
    let clauses = clauses-rise x l n found.clauses p.clauses mends.within small in
    record {
      literal = l;
      within = mends.within;
      untrue = mends.untrue;
      kept = both-none _ _
          (whole-clauses x l n found.clauses p.clauses mends.within no_clause (omega (arith, mends.finite))) mends.kept;
      less = omega (arith, ints, products, clauses, mends.gain);
    }

none-left : (a b : Bool) → (a || b) ≡ false → (a ≡ false) × (b ≡ false)
none-left a b e = (grind (arith, nat_tests), grind (arith, nat_tests))

some-right : (a b : Bool) → a ≡ false → (a || b) ≡ true → b ≡ true
some-right a b e h = grind (arith, nat_tests)

-- some part is broken, but none that has the penalty of the whole
find : (p : ProblemContent) (n : ℕ) (found : PartPenalties) (x : List Bool) → n ≤ far
    → All (λ k. n * most_missing k ^ 2 ≤ far) p.constraints
    → All (IsNormalClause (length x)) p.clauses
    → All (λ k. All (IsNormalProduct (length x)) k.products) p.constraints
    → ClausesMended (price_by p n found) n found.clauses p.clauses
    → ConstraintsMended (elsewhere_by p n found) n found.constraints p.constraints
    → (list_any (fails_hard x) p.clauses || list_any (fails x) p.constraints) ≡ true
    → some_whole (fails_hard x) n found.clauses p.clauses ≡ false
    → some_whole (fails x) n found.constraints p.constraints ≡ false
    → Gains p n found x
find p n found x small squares clauses constraints clauses_mended constraints_mended broken none_clause none_constraint =
    decide (list_any (fails_hard x) p.clauses) refl
  where
    decide : (b : Bool) → list_any (fails_hard x) p.clauses ≡ b → Gains p n found x
    decide true e =
        by-clause p n found x small squares none_clause none_constraint
        (find-clause x (price_by p n found) n found.clauses p.clauses small clauses e none_clause clauses_mended)
    decide false e =
        by-constraint p n found x small none_clause
        (find-constraint x (elsewhere_by p n found) n found.constraints p.constraints small squares constraints
        (some-right (list_any (fails_hard x) p.clauses) (list_any (fails x) p.constraints) e broken) none_constraint constraints_mended)

-- ---- where the penalty of the whole passes 64 bits

none-of : (n m : ℕ) → far ≤ n → n * m ≤ far - 1 → m ≡ 0
none-of n zero large small = refl
none-of n (suc m) large small =
    let one : 1 ≤ suc m = omega arith in
    absurd (omega (arith, large, small, mul-le-mul_left n one))

no-clause : (x : List Bool) (cs : List Clause) → count_by (λ c. is_none c.weight) cs ≡ 0
    → list_any (fails_hard x) cs ≡ false
no-clause x [] none = refl
no-clause x (c ∷ cs) none =
    let sum = sum_by-cons (λ (d : Clause). cond (is_none d.weight) 1 0) c cs in
    let others = no-clause x cs (omega (arith, sum, none)) in
    grind (arith, nat_tests)

no-constraint : (x : List Bool) (n : ℕ) (ks : List Constraint) → far ≤ n
    → All (λ k. n * reach k ^ 2 ≤ far - 1) ks → list_any (fails x) ks ≡ false
no-constraint x n [] large small = refl
no-constraint x n (k ∷ ks) large small =
    both-none (fails x k) (list_any (fails x) ks)
    (decide (fails x k) refl)
    (no-constraint x n ks large (All-tail (λ (j : Constraint). n * reach j ^ 2 ≤ far - 1) k ks small))
  where
    decide : (b : Bool) → fails x k ≡ b → b ≡ false
    decide false e = refl
    decide true e =
        let some = fails-missing x k e in
        let most = missing-le x k in
        let all = most_missing-le k in
        let zero_reach = none-of n (reach k ^ 2) large (All-head (λ (j : Constraint). n * reach j ^ 2 ≤ far - 1) k ks small) in
        let square = square-mono 1 (reach k) (omega (arith, some, most, all)) in
        absurd (omega (arith, zero_reach, square))

-- no part can be broken then
no-part : (p : ProblemContent) → Facts p → far ≤ penalty p → (x : List Bool)
    → (list_any (fails_hard x) p.clauses || list_any (fails x) p.constraints) ≡ false
no-part p f large x =
    both-none (list_any (fails_hard x) p.clauses) (list_any (fails x) p.constraints)
    (no-clause x p.clauses (none-of (penalty p) (count_by (λ (c : Clause). is_none c.weight) p.clauses) large f.hard))
    (no-constraint x (penalty p) p.constraints large f.squares)

-- ---- the rule

at-penalty : (p : ProblemContent) (found : PartPenalties) (x : List Bool) (l : Literal) (n : ℕ) → n ≡ penalty p
    → length x ≡ p.variables → l.variable < length x → holds x l ≡ false
    → (some_whole (fails_hard (made_true x l)) n found.clauses p.clauses
    || some_whole (fails (made_true x l)) n found.constraints p.constraints) ≡ false
    → (added p n found (made_true x l) +ℤ pos 1) ≤ℤ added p n found x
    → Mends (with_penalties p found) x l
at-penalty p found x l n is size within untrue kept less =
    let lower = rw is at less in
    record {
      within = omega (arith, within, size);
      untrue = untrue;
      whole = rw is at kept;
      less = omega (arith, ints, lower);
    }

mends : (p : ProblemContent) (found : PartPenalties) (x : List Bool) (n : ℕ) → n ≡ penalty p → n ≤ far
    → length x ≡ p.variables → All (λ k. n * most_missing k ^ 2 ≤ far) p.constraints → IsNormal p
    → ClausesMended (price_by p n found) n found.clauses p.clauses
    → ConstraintsMended (elsewhere_by p n found) n found.constraints p.constraints
    → breaks_part (with_penalties p found) x ≡ true → breaks_whole (with_penalties p found) x ≡ false
    → (l : Literal) × Mends (with_penalties p found) x l
mends p found x n is small size squares normal clauses constraints broken whole =
    let wholes : (some_whole (fails_hard x) n found.clauses p.clauses
    || some_whole (fails x) n found.constraints p.constraints) ≡ false = rw is whole in
    let each = none-left (some_whole (fails_hard x) n found.clauses p.clauses) _ wholes in
    let gains = find p n found x small squares
    (subst (λ v. All (IsNormalClause v) p.clauses) (sym size) normal.clauses)
    (subst (λ v. All (λ (k : Constraint). All (IsNormalProduct v) k.products) p.constraints) (sym size) normal.constraints)
    clauses constraints broken each.0 each.1 in
    (gains.literal, at-penalty p found x gains.literal n is size gains.within gains.untrue gains.kept gains.less)

pub enough : (p : ProblemContent) → IsSound p → IsWithinLimits p → AreEnough (with_penalties p (penalties_of p))
enough p sound limits x size broken whole = decide (nat_lt (penalty p) far) refl
  where
    f : Facts p
    f = facts p sound limits

    decide : (b : Bool) → nat_lt (penalty p) far ≡ b → (l : Literal) × Mends (with_penalties p (penalties_of p)) x l
    decide true e =
        let below : penalty p < far = ltb-true _ _ e in
        let is : whole_penalty p ≡ penalty p = omega (arith, below) in
        let reasons = mended-rule p in
        mends p (penalties_of p) x (whole_penalty p) is (omega (arith, below)) size f.scaled sound.0 reasons.0 reasons.1 broken whole
    decide false e =
        absurd (false≢true (sym (no-part p f (ltb-false _ _ e) x) ∙ broken))
