use Rattle.posiform_check.proofs.Common.{◌≡◌, first_negative}
use Rattle.posiform_check.proofs.proving.first_negative.Given as goal

-- the first one is among those that are left
abbrev pub invariant-loop-line : goal.invariant-loop-line
invariant-loop-line l = first_negative l.line-iterator ≡ first_negative l.lines
