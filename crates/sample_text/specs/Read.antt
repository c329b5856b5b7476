-- What a sample text is to a reader: a problem that passes no limit.
use Rattle.std.specs.Prelude.{◌≡◌, ℕ, ◌≤◌, Ok, None}
use Rattle.problem_form.specs.declared.limits.Normal.{Normal}
use Rattle.problem_form.specs.Problems.{ProblemContent}
use Rattle.problem_form.specs.Limits.{limit_fault}
use Rattle.wcnf_reader.specs.Cost.{normal_reading}
use Rattle.sample_text.specs.Sample.{sample_text}

-- every sample text is a weighted CNF, whose problem passes no limit
abbrev pub EachSampleIsRead : Type 0
EachSampleIsRead = (number clauses : ℕ) (normal : Normal) → clauses ≤ 100000
    → (p : ProblemContent) × (normal_reading (sample_text number clauses) ≡ Ok p)
    × (limit_fault normal p ≡ None)
