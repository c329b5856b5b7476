-- The prices before the first round, part by part.
use Rattle.local_penalties.proofs.Common.{◌≡◌, ℕ, ◌+◌, ◌-◌, subst, arith, nat_tests, List, [], ◌∷◌, All, All-tail, cond, sum_by, sum_by-cons, Literal, Clause, Constraint, hurts_constraint, soft_rise, clause_charges, constraint_charges, far}

pub sum-left : {X : Type 0} (f : X → ℕ) (x : X) (left others : List X) (a b total : ℕ)
    → left ≡ x ∷ others → b ≡ a + f x → a + sum_by f left ≡ total → b + sum_by f others ≡ total
sum-left f x left others a b total is e so_far =
    let s = rw is at so_far in omega (arith, e, s, sum_by-cons f x others)

pub clauses-left : (l : Literal) (w : ℕ) (c : Clause) (left others : List Clause) (a b total : ℕ)
    → left ≡ c ∷ others → b ≡ a + (soft_rise l c + clause_charges w [] (c ∷ []) l)
    → a + (sum_by (soft_rise l) left + clause_charges w [] left l) ≡ total
    → b + (sum_by (soft_rise l) others + clause_charges w [] others l) ≡ total
clauses-left l w c left others a b total is e so_far =
    let s = rw is at so_far in omega (arith, e, s, sum_by-cons (soft_rise l) c others)

pub constraints-left : (l : Literal) (w : ℕ) (k : Constraint) (left others : List Constraint) (a b total : ℕ)
    → left ≡ k ∷ others → b ≡ cond (hurts_constraint k l) (a - 0 + far) a
    → a + constraint_charges w [] left l ≡ total
    → b + constraint_charges w [] others l ≡ total
constraints-left l w k left others a b total is e so_far =
    let s = rw is at so_far in grind (arith, nat_tests)

pub all-left : {X : Type 0} (P : X → Type 0) (x : X) (left others : List X) → left ≡ x ∷ others
    → All P left → All P others
all-left P x left others is all = All-tail P x others (subst (λ xs. All P xs) is all)
