-- Assignments that lie variable by variable, a bit of a word for each.
use Rattle.std.specs.Prelude.{◌≡◌, ℕ, Bool, List, [], ◌==◌, map}
use Rattle.std.specs.Int.{bit_at}
use Rattle.problem_form.specs.Problems.{ProblemContent}

-- the bit of a word at a place is 1
abbrev pub is_marked : ℕ → ℕ → Bool
is_marked word place = bit_at word place == 1

-- the assignment at a place: what the bits there say of each variable
abbrev pub assignment : List ℕ → ℕ → List Bool
assignment words place = map (λ word. is_marked word place) words

-- there are no clauses and no constraints
pub record IsPlain (p : ProblemContent) : Type 0 where
  pub clauses : p.clauses ≡ []
  pub constraints : p.constraints ≡ []
