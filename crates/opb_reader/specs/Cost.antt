-- What an OPB text costs, before any normal form, and the problem that it becomes.
use Rattle.std.specs.Prelude.{◌≡◌, ℕ, ℤ, neg_ℤ, int_le, Bool, true, false, not, List, map, Result, Ok, if◌then◌else◌}
use Rattle.std.specs.List.{list_any}
use Rattle.std.specs.Ordering.{int_eq}
use Rattle.base.specs.declared.costs.Cost.{Cost}
use Rattle.base.specs.declared.costs.Cost.TheVariants.{Whole, Infinite}
use Rattle.base.specs.Costs.{Form}
use Rattle.whole_text.specs.declared.faults.TextFault.{TextFault}
use Rattle.whole_text.specs.Tokens.{Word}
use Rattle.whole_text.specs.Steps.{◌>>=◌}
use Rattle.problem_form.specs.declared.terms.Product.{Product}
use Rattle.problem_form.specs.declared.terms.Constraint.{Constraint}
use Rattle.problem_form.specs.Problems.{ProblemContent, sum_of, negated, problem_cost}
use Rattle.problem_form.specs.NormalForm.{normal_form, blank, with_variables}
use Rattle.opb_reader.specs.declared.operator.Operator.{Operator}
use Rattle.opb_reader.specs.declared.operator.Operator.TheVariants.{AtLeast, AtMost, Equal}
use Rattle.opb_reader.specs.Opb.{Listed, Opb, variables_of, reading_of_words, reading}

-- ---- the cost of the text as written

-- how a sum stands to its bound
abbrev pub stands : Operator → ℤ → ℤ → Bool
stands AtLeast sum bound = int_le bound sum
stands AtMost sum bound = int_le sum bound
stands Equal sum bound = int_eq sum bound

-- the sum of the coefficients whose literals are all true stands to the bound as it is written
abbrev pub is_met : List Bool → Listed → Bool
is_met x k = stands k.operator (sum_of x k.terms) k.bound

-- some constraint fails
abbrev pub is_broken : Opb → List Bool → Bool
is_broken s x = list_any (λ k. not (is_met x k)) s.constraints

-- infinite where a constraint fails, else the sum of the objective
abbrev pub opb_cost : Opb → List Bool → Cost
opb_cost s x = if is_broken s x then Infinite else Whole (sum_of x s.objective)

-- the text as a form: its bits and its cost
abbrev pub form_of : Opb → Form
form_of s = record { bits = variables_of s; cost = opb_cost s }

-- ---- the problem that it becomes

-- the constraint as a problem says it: at most a bound is at least its negation, for the negated sum
abbrev pub compared : Operator → List Product → ℤ → Constraint
compared AtLeast terms bound = record { products = terms; bound = bound; exact = false }
compared AtMost terms bound =
    record { products = map negated terms; bound = neg_ℤ bound; exact = false }
compared Equal terms bound = record { products = terms; bound = bound; exact = true }

-- a constraint of the text as a problem says it
abbrev pub constraint_of : Listed → Constraint
constraint_of k = compared k.operator k.terms k.bound

-- the problem as written
abbrev pub problem_of : Opb → ProblemContent
problem_of s = record (with_variables blank (variables_of s)) {
  objective = s.objective;
  constraints = map constraint_of s.constraints;
}

-- the reading of words, as a problem in normal form
unfoldable pub problem_of_words : List Word → Result ProblemContent TextFault
problem_of_words ws = reading_of_words ws >>= λ s. Ok (normal_form (problem_of s))

-- the reading of a text, as a problem in normal form
unfoldable pub normal_reading : List ℕ → Result ProblemContent TextFault
normal_reading text = reading text >>= λ s. Ok (normal_form (problem_of s))

-- the problem that is read costs what its text costs, under every assignment
abbrev pub ReadingKeepsCosts : Type 0
ReadingKeepsCosts =
    (s : Opb) (x : List Bool) → problem_cost (normal_form (problem_of s)) x ≡ opb_cost s x
