-- What the limits say of the penalty method's table.
use Rattle.std.specs.Prelude.{ℕ, unwrap_or, List}
use Rattle.std.specs.List.{sum_by}
use Rattle.problem_form.specs.declared.terms.Clause.{Clause}

-- The weights of the clauses, where a hard one weighs n. With n as the penalty it bounds what all
-- clauses can add to a sum.
abbrev pub clause_weights : ℕ → List Clause → ℕ
clause_weights n cs = sum_by (λ c. unwrap_or c.weight n) cs
