-- What costs within the limits come to: below 2 ^ 64 in size.
use Rattle.program_run.proofs.Common.{nat_tests, length, Cost, Read, Written, judgement_by, ◌≡◌, ◌-◌, ◌^◌, ◌≤◌, ℤ, ◌+ℤ◌, Bool, true, false, ◌||◌, List, None, arith, if◌then◌else◌, list_any, ints, total_by, Normal, ProblemContent, fails, fails_hard, own_cost, soft_cost, sum_of, limit_fault, weight, soft_costs-size, sum_of-size, IsSmall, All, All-from_get_or, AreCosts, IsWithin, Whole, Infinite, sym, subst, inl, inr, Some, Option, WboContent, KeepsSoft, IsRewrittenFrom, cost_by, extended, said_cost}

weight_is_small : (normal : Normal) (p : ProblemContent) → limit_fault normal p ≡ None
    → weight p ≤ 2 ^ 64 - 1
weight_is_small normal p none = grind (arith, nat_tests)

cost_is_small : (normal : Normal) (p : ProblemContent) (x : List Bool)
    → limit_fault normal p ≡ None → IsSmall (own_cost p x)
cost_is_small normal p x none =
    go (list_any (fails_hard x) p.clauses || list_any (fails x) p.constraints)
  where
    value : ℤ
    value = p.constant +ℤ sum_of x p.objective +ℤ total_by (soft_cost x) p.clauses

    go : (b : Bool) → IsSmall (if b then Infinite else Whole value)
    go true = tt
    go false =
        let small = weight_is_small normal p none in
        omega (arith, ints, sum_of-size x p.objective, soft_costs-size x p.clauses)

-- so are those that are told of a source
said_by : (soft : Option WboContent) (normal : Normal) (r : Read) (x : List Bool)
    → IsRewrittenFrom soft r → limit_fault normal r.problem ≡ None
    → IsSmall (cost_by soft (own_cost r.problem) x)
said_by None normal r x kept none = cost_is_small normal r.problem x none
said_by (Some w) normal r x kept none =
    let y = extended w x in
    let small = cost_is_small normal r.problem y none in
    elim (kept.costs y) [
      | inl same ↦ subst IsSmall (sym same) small
      | inr infinite ↦ subst IsSmall (sym infinite) tt
    ]

pub said_is_small : (normal : Normal) (r : Read) (x : List Bool) → KeepsSoft r
    → limit_fault normal r.problem ≡ None → IsSmall (said_cost r x)
said_is_small normal r x kept none = said_by r.soft normal r x kept none

-- and those of states
pub costs_are_small : (read : Read) (m : Written) (states : List (List Bool)) (costs : List Cost)
    → KeepsSoft read → IsWithin read.problem → length costs ≡ length states
    → AreCosts (judgement_by read m) states costs → All IsSmall costs
costs_are_small read m states costs kept within even are =
    let small : (x : List Bool) → IsSmall (said_cost read x) =
    λ x. said_is_small within.0 read x kept within.1 in
    All-from_get_or IsSmall costs Infinite (λ k below. grind (arith, nat_tests))
