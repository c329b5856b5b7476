-- What the fields of a problem say, and what they keep.
use Rattle.std.specs.Prelude.{◌<◌, ◌^◌}
use Rattle.problem_form.specs.declared.problem.Problem.TheInside.{Inside}
use Rattle.problem_form.specs.Problems.{ProblemContent, IsNormal, problem_total}

-- the content that contracts see
abbrev pub content_within : Inside → ProblemContent
content_within p = record {
  variables = p.variables;
  constant = p.constant;
  objective = p.objective;
  clauses = p.clauses;
  constraints = p.constraints;
  most = p.most;
  penalties = p.penalties;
}

-- normal form, and sizes that sum to below 2^100, so that sums over a problem fit 128 bits
abbrev pub IsSound : ProblemContent → Type 0
IsSound p = IsNormal p × (problem_total p < 2 ^ 100)
