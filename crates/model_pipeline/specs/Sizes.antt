-- How many nodes the quadratic form of a problem has at most.
use Rattle.std.specs.Prelude.{◌+◌, ◌≤◌, length}
use Rattle.problem_form.specs.declared.limits.Choices.{Choices}
use Rattle.problem_form.specs.Problems.{ProblemContent}
use Rattle.problem_form.specs.Limits.{auxiliary_bits}
use Rattle.model_pipeline.specs.Models.{quad_of}

-- the nodes are at most the variables and the auxiliary bits
abbrev pub NodesAreFew : Type 0
NodesAreFew = (choices : Choices) (p : ProblemContent)
    → length (quad_of choices p).diagonal ≤ p.variables + auxiliary_bits choices.normal p
