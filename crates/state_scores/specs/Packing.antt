-- How a score is kept in 32 bytes.
use Rattle.std.specs.Prelude.{ℕ, pos, neg_ℤ}
use Rattle.base.specs.declared.costs.Cost.{Cost}
use Rattle.base.specs.declared.costs.Cost.TheVariants.{Whole, Infinite}
use Rattle.state_scores.specs.declared.worth.Score.{Score}
use Rattle.state_scores.specs.declared.score_list.CostKind.{CostKind}
use Rattle.state_scores.specs.declared.score_list.CostKind.TheVariants.{Positive, Negative, Unbounded}
use Rattle.state_scores.specs.declared.score_list.Packed.{Packed}

-- the cost of this kind and size
abbrev pub cost_from : CostKind → ℕ → Cost
cost_from Positive size = Whole (pos size)
cost_from Negative size = Whole (neg_ℤ (pos size))
cost_from Unbounded size = Infinite

-- the score that is kept
abbrev pub unpacked : Packed → Score
unpacked p = record { line = p.line; cost = cost_from p.kind p.size; energy = p.energy }
