-- What the steps of the reader give: the readings of `Opb`, seen as parts of the problem.
use Rattle.std.specs.Prelude.{ℕ, List, ◌++◌, fold, Result, Ok}
use Rattle.whole_text.specs.declared.faults.TextFault.{TextFault}
use Rattle.whole_text.specs.Tokens.{Word}
use Rattle.whole_text.specs.Steps.{◌>>=◌}
use Rattle.literal_lists.specs.declared.literal.Literal.{Literal}
use Rattle.problem_form.specs.declared.terms.Product.{Product}
use Rattle.problem_form.specs.Problems.{ProblemContent}
use Rattle.problem_form.specs.NormalForm.{with_variables, with_product, with_constraint}
use Rattle.opb_reader.specs.Opb.{Listed, literals_in, widened, greatest_index, literals_at, head_at, objective_at, constraint_at, constraints_at}
use Rattle.opb_reader.specs.Cost.{constraint_of}

-- the literals that follow, put behind others, and what is left
abbrev pub literals_read : ℕ → List Literal → List Word
    → Result (List Literal × List Word) TextFault
literals_read limit front ws = literals_at limit ws >>= λ x. Ok (front ++ x.0, x.1)

-- a problem with one more term of the objective, and variables enough for it
abbrev pub with_term : ProblemContent → Product → ProblemContent
with_term p t = with_product (with_variables p (widened p.variables t.literals)) t

-- a problem with one more constraint, and variables enough for it
abbrev pub with_listed : ProblemContent → Listed → ProblemContent
with_listed p k =
    with_constraint (with_variables p (widened p.variables (literals_in k.terms))) (constraint_of k)

-- what is read, put to what is there, and what is left
abbrev pub put : {A B : Type 0} → (B → A → B) → B → Result (A × List Word) TextFault
    → Result (B × List Word) TextFault
put step b read = read >>= λ x. Ok (step b x.0, x.1)

-- all that is read, put to what is there one after another, and what is left
abbrev pub put_all : {A B : Type 0} → (B → A → B) → B → Result (List A × List Word) TextFault
    → Result (B × List Word) TextFault
put_all step b read = read >>= λ x. Ok (fold step b x.0, x.1)

-- a problem with the terms of an objective, and what is left after its `;`
abbrev pub objective_read : ProblemContent → ℕ → List Word
    → Result (ProblemContent × List Word) TextFault
objective_read p end ws = put_all with_term p (objective_at end ws)

-- a problem with the terms of an objective, where there is one
abbrev pub head_read : ProblemContent → ℕ → List Word
    → Result (ProblemContent × List Word) TextFault
head_read p end ws = put_all with_term p (head_at end ws)

-- a problem with the constraint that has this first word, and what is left
abbrev pub constraint_read : ProblemContent → ℕ → Word → List Word
    → Result (ProblemContent × List Word) TextFault
constraint_read p end w ws = put with_listed p (constraint_at greatest_index end w ws)

-- a problem with all constraints
abbrev pub constraints_read : ProblemContent → ℕ → List Word → Result ProblemContent TextFault
constraints_read p end ws = constraints_at end ws >>= λ x. Ok (fold with_listed p x.0)
