use Rattle.local_penalties.proofs.Common.{◌≡◌, ◌-◌, after_rounds, penalties_of}
use Rattle.local_penalties.specs.Kept.{ArePrices}
use Rattle.local_penalties.proofs.finding.after_rounds.Given as goal

-- the rounds that are left give the penalties of the rule
abbrev pub invariant-loop-round : goal.invariant-loop-round
invariant-loop-round l = record {
  left : after_rounds (8 - l.round) l.problem l.found ≡ penalties_of l.problem;
  prices : ArePrices l.problem l.found l.numbers l.marks;
}
