use Rattle.wcnf_reader.proofs.Common.{◌≡◌, ◌<◌, ◌≤◌, take, All, widened}
use Rattle.wcnf_reader.proofs.listed.widened.Given as goal

-- so far it is the number for the literals so far
abbrev pub invariant-loop-literal : goal.invariant-loop-literal
invariant-loop-literal l = record {
  least : l.widened ≡ widened l.variables (take l.literal-index l.literals);
  wider : l.variables ≤ l.widened;
  within : All (λ k. k.variable < l.widened) (take l.literal-index l.literals);
}
