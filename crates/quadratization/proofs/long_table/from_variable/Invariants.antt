use Rattle.quadratization.proofs.Common.{◌≡◌, IsTrue, has_variable, from_variable}
use Rattle.quadratization.proofs.long_table.from_variable.Given as goal

-- the variable is among the literals that are left
abbrev pub invariant-loop-literal : goal.invariant-loop-literal
invariant-loop-literal l = record {
  there : IsTrue (has_variable l.variable l.literals);
  whole : from_variable l.variable l.literals ≡ from_variable l.variable l.initial.literals;
}
