use Rattle.penalty_layer.proofs.Common.{◌≡◌, ◌+◌, ◌-◌, ◌^◌, ◌++◌, doubled, slack_terms}
use Rattle.penalty_layer.proofs.parts.Parts.push_doubled.Given as goal

-- the bits so far, and those of the weights that are left, are all
abbrev pub invariant-loop : goal.invariant-loop
invariant-loop l = record {
  number : l.number ≡ l.fn.first + l.counter;
  weight : l.weight ≡ 2 ^ l.counter;
  whole : l.self ++ slack_terms l.number (doubled l.weight (l.fn.count - l.counter) l.fn.last)
      ≡ l.fn.self ++ slack_terms l.fn.first (doubled 1 l.fn.count l.fn.last);
}
