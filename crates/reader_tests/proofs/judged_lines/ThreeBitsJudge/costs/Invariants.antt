use Rattle.std.proofs.Common.{◌≡◌, ◌<◌, ℕ, [], false, get_or, pos, if◌then◌else◌}
use Rattle.base.specs.declared.costs.Cost.TheVariants.{Whole, Infinite}
use Rattle.reader_tests.proofs.judged_lines.ThreeBitsJudge.costs.Given as goal

-- the costs of the states so far are known
abbrev pub invariant-loop-place : goal.invariant-loop-place
invariant-loop-place l = record {
  costs : (j : ℕ) → j < l.place → get_or l.costs j Infinite ≡ (if get_or (get_or l.states j []) 0 false then Infinite else
      Whole (if get_or (get_or l.states j []) 1 false then pos 1 else pos 0));
}
