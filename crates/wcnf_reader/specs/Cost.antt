-- What a weighted CNF text costs, before any normal form, and the problem that it becomes.
use Rattle.std.specs.Prelude.{◌≡◌, ℕ, ◌-◌, ℤ, pos, negsuc, int_lt, nat_abs, Bool, false, not, ◌&&◌, List, map, Option, Some, None, is_none, unwrap_or, Result, Ok, nat_le, if◌then◌else◌}
use Rattle.std.specs.List.{list_any, slice_index_or}
use Rattle.base.specs.Sums.{total_by, if_so}
use Rattle.base.specs.declared.costs.Cost.{Cost}
use Rattle.base.specs.declared.costs.Cost.TheVariants.{Whole, Infinite}
use Rattle.base.specs.Costs.{Form}
use Rattle.whole_text.specs.declared.faults.TextFault.{TextFault}
use Rattle.whole_text.specs.Tokens.{Word}
use Rattle.whole_text.specs.Steps.{◌>>=◌}
use Rattle.literal_lists.specs.declared.literal.Literal.{Literal}
use Rattle.problem_form.specs.declared.terms.Clause.{Clause}
use Rattle.problem_form.specs.Problems.{ProblemContent, problem_cost}
use Rattle.problem_form.specs.NormalForm.{normal_form, blank, with_variables}
use Rattle.wcnf_reader.specs.declared.layout.ClauseLayout.{ClauseLayout}
use Rattle.wcnf_reader.specs.declared.layout.ClauseLayout.TheVariants.{Older, WithoutHeader}
use Rattle.wcnf_reader.specs.Wcnf.{Listed, Wcnf, reading_of_words, reading}

-- ---- the cost of the text as written

-- literal k is true where variable k - 1 is 1, and literal -k where it is 0
abbrev pub is_true : List Bool → ℤ → Bool
is_true x (pos k) = slice_index_or x (k - 1) false
is_true x (negsuc k) = not (slice_index_or x k false)

-- some literal of the clause is true
abbrev pub is_satisfied : List Bool → Listed → Bool
is_satisfied x c = list_any (is_true x) c.literals

-- in the older layout a clause is hard where there is a TOP and its weight is at least TOP, and in
-- that of 2022 where it has no weight, since it begins with `h`
abbrev pub is_hard : ClauseLayout → Option ℕ → Bool
is_hard (Older (Some top)) (Some weight) = nat_le top weight
is_hard (Older top) weight = false
is_hard WithoutHeader weight = is_none weight

-- some hard clause has no true literal
abbrev pub is_broken : Wcnf → List Bool → Bool
is_broken s x = list_any (λ c. is_hard s.layout c.weight && not (is_satisfied x c)) s.clauses

-- the weights of the soft clauses that have no true literal
abbrev pub unsatisfied_weight : Wcnf → List Bool → ℤ
unsatisfied_weight s x =
    total_by
    (λ c. if_so (not (is_hard s.layout c.weight) && not (is_satisfied x c)) (pos (unwrap_or c.weight 0)))
    s.clauses

-- infinite where a hard clause is broken, else the sum of the unsatisfied soft weights
abbrev pub wcnf_cost : Wcnf → List Bool → Cost
wcnf_cost s x = if is_broken s x then Infinite else Whole (unsatisfied_weight s x)

-- the text as a form: its bits and its cost
abbrev pub form_of : Wcnf → Form
form_of s = record { bits = s.variables; cost = wcnf_cost s }

-- ---- the problem that it becomes

-- literal k stands for variable k - 1, and -k for its complement
abbrev pub literal_of : ℤ → Literal
literal_of z = record { variable = nat_abs z - 1; negated = int_lt z (pos 0) }

-- the clause of these literals, hard or with its weight
abbrev pub clause_of : ClauseLayout → Listed → Clause
clause_of layout c = record {
  literals = map literal_of c.literals;
  weight = if is_hard layout c.weight then None else Some (unwrap_or c.weight 0);
}

-- the problem as written
abbrev pub problem_of : Wcnf → ProblemContent
problem_of s =
    record (with_variables blank s.variables) { clauses = map (clause_of s.layout) s.clauses }

-- the reading of words, as a problem in normal form
unfoldable pub problem_of_words : List Word → Result ProblemContent TextFault
problem_of_words ws = reading_of_words ws >>= λ s. Ok (normal_form (problem_of s))

-- the reading of a text, as a problem in normal form
unfoldable pub normal_reading : List ℕ → Result ProblemContent TextFault
normal_reading text = reading text >>= λ s. Ok (normal_form (problem_of s))

-- the problem that is read costs what its text costs, under every assignment
abbrev pub ReadingKeepsCosts : Type 0
ReadingKeepsCosts =
    (s : Wcnf) (x : List Bool) → problem_cost (normal_form (problem_of s)) x ≡ wcnf_cost s x
