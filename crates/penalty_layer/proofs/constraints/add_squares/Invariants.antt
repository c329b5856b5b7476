use Rattle.penalty_layer.proofs.Common.{◌≡◌, ◌+◌, ◌*◌, ◌≤◌, ◌<◌, ◌^◌, All, sum_by, constraint_total, reach, slack_bits, IsSet, constraint_terms, Rest}
use Rattle.penalty_layer.proofs.constraints.add_squares.Given as goal

-- the squares so far were added, and those of the constraints that are left are small
abbrev pub invariant-loop-constraint : goal.invariant-loop-constraint
invariant-loop-constraint g l = record {
  rest : Rest g.T.Gather.takes g.T.Gather.holds l.fn.terms l.terms
      (constraint_terms l.penalty l.left l.next l.constraint-iterator)
      (constraint_terms l.penalty l.own l.first l.constraints);
  small : sum_by (λ k. l.penalty * reach k ^ 2) l.constraint-iterator ≤ 2 ^ 97;
  place : l.next + sum_by slack_bits l.constraint-iterator ≡ l.first + sum_by slack_bits l.constraints;
  sets : All (λ k. All (λ t. IsSet t.literals) k.products) l.constraint-iterator;
  totals : sum_by constraint_total l.constraint-iterator < 2 ^ 100;
}
