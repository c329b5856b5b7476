-- What the source of a text costs: what the text costs, constraint by constraint.
use Rattle.wbo_reader.proofs.Common.{nat_tests, ◌≡◌, ℕ, ◌+◌, Bool, false, not, ◌||◌, List, [], ◌∷◌, ◌++◌, Option, unwrap_or, pos, refl, ◌∙◌, arith, if◌then◌else◌, list_any, sum_by, flat_map, list_any-append, sum_by-cons, Cost, Constraint, fails, normal_constraint, Listed, Opb, is_met, constraint_of, reading_keeps_costs, Soft, paid, Weighed, breaks, pays, hard_of, soft_by, soft_of, ReadingKeepsCosts}
use Rattle.base.specs.declared.costs.Cost.TheVariants.{Whole, Infinite}

-- ---- one constraint: the law of OPB texts, for the text of this constraint alone

abbrev alone : Listed → Opb
alone k = record { objective = []; constraints = k ∷ [] }

abbrev told : Bool → Cost
told broken = if broken || false then Infinite else Whole (pos 0)

same_told : (a b : Bool) → told a ≡ told b → a ≡ b
same_told a b e = grind (arith, nat_tests)

pub constraint-fails : (x : List Bool) (k : Listed)
    → fails x (normal_constraint (constraint_of k)) ≡ not (is_met x k)
constraint-fails x k =
    same_told (fails x (normal_constraint (constraint_of k))) (not (is_met x k))
    (reading_keeps_costs (alone k) x)

-- ---- all constraints

hard-one : (x : List Bool) (k : Weighed) → list_any (fails x) (hard_of k) ≡ breaks x k
hard-one x k = grind (arith, nat_tests, constraint-fails)

hard-all : (x : List Bool) (ks : List Weighed)
    → list_any (fails x) (flat_map hard_of ks) ≡ list_any (breaks x) ks
hard-all x [] = refl
hard-all x (k ∷ ks) =
    list_any-append (fails x) (hard_of k) (flat_map hard_of ks)
    ∙ (λ i. hard-one x k i || hard-all x ks i)

-- what is paid for one
soft-one : (x : List Bool) (weight : Option ℕ) (k : Constraint) (met : Bool)
    → fails x k ≡ not met → paid x (soft_by weight k) ≡ (if met then 0 else unwrap_or weight 0)
soft-one x weight k met e = grind (arith, nat_tests)

paid-append : (x : List Bool) (ss ts : List Soft) → paid x (ss ++ ts) ≡ paid x ss + paid x ts
paid-append x [] ts = omega arith
paid-append x (s ∷ ss) ts = omega (arith, sum_by-cons, paid-append x ss ts)

soft-all : (x : List Bool) (ks : List Weighed) → paid x (flat_map soft_of ks) ≡ sum_by (pays x) ks
soft-all x [] = refl
soft-all x (k ∷ ks) =
    let paid_append = paid-append x (soft_of k) (flat_map soft_of ks) in
    let soft_one = soft-one x k.weight (normal_constraint (constraint_of k.listed)) (is_met x k.listed)
    (constraint-fails x k.listed) in
    omega (arith, soft-all x ks, sum_by-cons (pays x) k ks)

pub reading_keeps_costs_of_text : ReadingKeepsCosts
reading_keeps_costs_of_text t x = grind (arith, nat_tests, soft-all, hard-all)
