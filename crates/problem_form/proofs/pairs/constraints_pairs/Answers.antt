use Rattle.problem_form.proofs.Lemmas.{arith, nat_tests, constraint_pairs, constraint_total, answered_left, answered_end, first_within, rest_within}
use Rattle.problem_form.proofs.pairs.constraints_pairs.Goals as goal

pub constraint_pairs_of-requires : goal.constraint_pairs_of-requires
constraint_pairs_of-requires c =
    first_within constraint_total _ _ _ _ c.in-Some.ensures.steps c.loop-constraint.invariant.small

pub loop-constraint-preserved : goal.loop-constraint-preserved
loop-constraint-preserved c = record {
  counted = answered_left (constraint_pairs c.args.normal) _ _ _ _ _ _ _ c.in-Some.ensures.steps
      c.constraint_pairs_of.ensures c.saturating_add-total.ensures c.loop-constraint.invariant.counted;
  small = rest_within constraint_total _ _ _ _ c.in-Some.ensures.steps c.loop-constraint.invariant.small;
}

pub returns : goal.returns
returns c = grind (arith, nat_tests, answered_end)
