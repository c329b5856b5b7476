use Rattle.problem_form.proofs.Lemmas.{arith, nat_tests, ℕ, ◌*◌, ◌^◌, Constraint, reach, constraint_total, answered_square, answered_left, answered_end, first_within, rest_within}
use Rattle.problem_form.proofs.counts.squares.Goals as goal

pub reach_of-reach-requires : goal.reach_of-reach-requires
reach_of-reach-requires c =
    first_within constraint_total _ _ _ _ c.in-Some.ensures.steps c.loop-constraint.invariant.small

pub loop-constraint-preserved : goal.loop-constraint-preserved
loop-constraint-preserved c =
    let part = answered_square c.args.penalty (reach c.in-Some.constraint) _ _ _
    c.reach_of-reach.ensures c.times-square.ensures c.times.ensures in
    let square : Constraint → ℕ = λ k. c.args.penalty * reach k ^ 2 in
    record {
      counted = answered_left square _ _ _ _ _ _ _ c.in-Some.ensures.steps part
          c.saturating_add-total.ensures c.loop-constraint.invariant.counted;
      small = rest_within constraint_total _ _ _ _ c.in-Some.ensures.steps c.loop-constraint.invariant.small;
    }

pub returns : goal.returns
returns c = grind (arith, nat_tests, answered_end)
