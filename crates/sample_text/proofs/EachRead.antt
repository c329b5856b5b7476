-- Each sample text is read, and what it says passes no limit.
use Rattle.sample_text.proofs.Common.{nat_tests, ◌≡◌, ℕ, zero, suc, ◌≤◌, Bool, cond, length, map, Some, None, Result, Ok, ap, unwrap_or, arith, AllByRecursion, TextFault, ◌>>=◌, normal_form, Wcnf, clause_of, problem_of, normal_reading, seed, after, variables_of, top_of, EachSampleIsRead}
use Rattle.wcnf_reader.specs.declared.layout.ClauseLayout.TheVariants.{Older}
use Rattle.sample_text.proofs.Sizes.{weight_small}
use Rattle.sample_text.proofs.Readings.{listed_clause, listed_clauses, sample, sample_again}
use Rattle.sample_text.proofs.Bounds.{IsSmall, clauses_pass_none}

soft_part : (hard : Bool) (w : ℕ) → unwrap_or (cond hard None (Some w)) 0 ≤ w
soft_part hard w = grind (arith, nat_tests)

clause_small : (variables top state : ℕ) → top ≤ 1000001
    → IsSmall (clause_of (Older (Some top)) (listed_clause variables top state))
clause_small variables top state light = grind (arith, nat_tests, soft_part, weight_small)

all_small : (count variables top state : ℕ) → top ≤ 1000001 → AllByRecursion IsSmall
    (map (clause_of (Older (Some top))) (listed_clauses count variables top state))
all_small zero variables top state light = tt
all_small (suc count) variables top state light =
    (clause_small variables top state light, all_small count variables top (after 7 state) light)

all_counted : (count variables top state : ℕ)
    → length (map (clause_of (Older (Some top))) (listed_clauses count variables top state)) ≡ count
all_counted zero variables top state = omega arith
all_counted (suc count) variables top state =
    omega (arith, all_counted count variables top (after 7 state))

pub each_sample_is_read : EachSampleIsRead
unfolding normal_reading
each_sample_is_read number clauses normal few =
    let variables = variables_of clauses in
    let top = top_of clauses in
    let listed = listed_clauses clauses variables top (seed number) in
    let cs = map (clause_of (Older (Some top))) listed in
    let count = all_counted clauses variables top (seed number) in
    let small = all_small clauses variables top (seed number) (omega arith) in (
      normal_form (problem_of (sample number clauses)),
      ap (λ (r : Result Wcnf TextFault). r >>= λ s. Ok (normal_form (problem_of s)))
          (sample_again number clauses few),
      clauses_pass_none normal variables cs (omega arith) (omega (arith, count)) small,
    )
