-- What the steps of the reader give: the readings of `Wcnf`, seen as parts of the problem.
use Rattle.std.specs.Prelude.{ℕ, ℤ, nat_abs, ◌+◌, max, List, map, fold, Option, Some, None, Result, Ok, unwrap_or, ◌==◌, if◌then◌else◌}
use Rattle.whole_text.specs.declared.faults.TextFault.{TextFault}
use Rattle.whole_text.specs.Tokens.{Word}
use Rattle.whole_text.specs.Steps.{◌>>=◌}
use Rattle.literal_lists.specs.declared.literal.Literal.{Literal}
use Rattle.problem_form.specs.declared.terms.Clause.{Clause}
use Rattle.problem_form.specs.Problems.{ProblemContent}
use Rattle.problem_form.specs.NormalForm.{normal_form}
use Rattle.wcnf_reader.specs.declared.layout.ClauseLayout.{ClauseLayout}
use Rattle.wcnf_reader.specs.declared.layout.ClauseLayout.TheVariants.{Older}
use Rattle.wcnf_reader.specs.declared.header.Start.{Start}
use Rattle.wcnf_reader.specs.Wcnf.{Header, Listed, Wcnf, first_of, literal_at, literals_at, clause_at, clauses_at, older_of, headerless_of}
use Rattle.wcnf_reader.specs.Cost.{is_hard, literal_of, clause_of, problem_of}

-- the numbers of the header
abbrev pub header_of : Start → Header
header_of start = record { variables = start.variables; clauses = start.clauses; top = start.top }

-- the weight of a clause, or none for a hard one
abbrev pub weight_kept : ClauseLayout → Option ℕ → Option ℕ
weight_kept layout weight = if is_hard layout weight then None else Some (unwrap_or weight 0)

-- the first word of a clause, as the weight that the problem has
abbrev pub weight_read : ClauseLayout → Word → Result (Option ℕ) TextFault
weight_read layout w = first_of layout w >>= λ weight. Ok (weight_kept layout weight)

-- a number as a literal, and 0 as none
abbrev pub some_literal : ℤ → Option Literal
some_literal z = if nat_abs z == 0 then None else Some (literal_of z)

-- a literal of a clause, or none where the clause ends
abbrev pub literal_read : Option ℕ → Word → Result (Option Literal) TextFault
literal_read variables w = literal_at variables w >>= λ z. Ok (some_literal z)

-- the literals of a clause, and what is left
abbrev pub literals_read : Option ℕ → ℕ → List Word → Result (List Literal × List Word) TextFault
literals_read variables end ws = literals_at variables end ws >>= λ x. Ok (map literal_of x.0, x.1)

-- as many variables as are said, or as can be numbered
abbrev pub bound_of : Option ℕ → ℕ
bound_of variables = unwrap_or variables 18446744073709551615

-- the least number of variables, at least so many, that has all these literals
abbrev pub widened : ℕ → List Literal → ℕ
widened variables literals = fold max variables (map (λ l. l.variable + 1) literals)

-- a clause as the problem has it, and what is left
abbrev pub clause_read : ClauseLayout → Option ℕ → ℕ → Word → List Word
    → Result (Clause × List Word) TextFault
clause_read layout variables end w ws =
    clause_at layout variables end w ws >>= λ x. Ok (clause_of layout x.0, x.1)

-- what is read, as a problem in normal form
abbrev pub as_problem : Result Wcnf TextFault → Result ProblemContent TextFault
as_problem read = read >>= λ s. Ok (normal_form (problem_of s))

-- listed clauses of the older layout, as a problem in normal form
abbrev pub listed_problem : Header → List Listed → ProblemContent
listed_problem h cs =
    normal_form
    (problem_of (record { layout = Older h.top; variables = h.variables; clauses = cs }))

-- the clauses that the header counts, as a problem, and what is left
abbrev pub problem_read : Header → ℕ → List Word → Result (ProblemContent × List Word) TextFault
problem_read h end ws = clauses_at h.clauses h end ws >>= λ x. Ok (listed_problem h x.0, x.1)

-- the problem of a text of the older layout, after a `p` on this line
abbrev pub older_read : ℕ → ℕ → List Word → Result ProblemContent TextFault
older_read line end ws = as_problem (older_of line end ws)

-- the problem of a text of the layout of 2022
abbrev pub headerless_read : ℕ → List Word → Result ProblemContent TextFault
headerless_read end ws = as_problem (headerless_of end ws)
