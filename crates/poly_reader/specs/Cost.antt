-- What a polynomial text costs, before any normal form, and the problem that it becomes.
use Rattle.std.specs.Prelude.{◌≡◌, ℕ, ℤ, Bool, false, not, List, length, map, Result, Ok, if◌then◌else◌}
use Rattle.std.specs.List.{list_all, slice_index_or}
use Rattle.base.specs.Sums.{total_by, if_so}
use Rattle.base.specs.declared.costs.Cost.{Cost}
use Rattle.base.specs.declared.costs.Cost.TheVariants.{Whole}
use Rattle.base.specs.Costs.{Form}
use Rattle.whole_text.specs.declared.faults.TextFault.{TextFault}
use Rattle.whole_text.specs.Tokens.{Word}
use Rattle.whole_text.specs.Steps.{◌>>=◌}
use Rattle.literal_lists.specs.declared.literal.Literal.{Literal}
use Rattle.problem_form.specs.declared.terms.Product.{Product}
use Rattle.problem_form.specs.Problems.{ProblemContent, problem_cost}
use Rattle.problem_form.specs.NormalForm.{normal_form, blank, with_variables}
use Rattle.poly_reader.specs.declared.reading.Polynomial.{Polynomial}
use Rattle.poly_reader.specs.Poly.{Named, Listed, reading_of_words, reading}
use Rattle.poly_reader.specs.Numbering.{number_of, names_of}

-- ---- the cost of the text as written

-- the bit of the variable with this name, of so named variables
abbrev pub bit_of : List (List ℕ) → List Bool → List ℕ → Bool
bit_of names x name = slice_index_or x (number_of names name) false

-- the literal is true under the assignment: the bit is 1, or 0 for the complement
abbrev pub is_true : List (List ℕ) → List Bool → Named → Bool
is_true names x l = if l.negated then not (bit_of names x l.name) else bit_of names x l.name

-- the coefficient of a product whose literals are all true
abbrev pub value_of : List (List ℕ) → List Bool → Listed → ℤ
value_of names x t = if_so (list_all (is_true names x) t.literals) t.coefficient

-- the sum over the products; a number alone always counts
abbrev pub poly_cost : List Listed → List Bool → Cost
poly_cost ts x = Whole (total_by (value_of (names_of ts) x) ts)

-- the text as a form: its bits and its cost
abbrev pub form_of : List Listed → Form
form_of ts = record { bits = length (names_of ts); cost = poly_cost ts }

-- ---- the problem that it becomes

-- the literal of a variable, by the number of its name
abbrev pub literal_of : List (List ℕ) → Named → Literal
literal_of names l = record { variable = number_of names l.name; negated = l.negated }

-- a product of the text, with numbers for the names of its variables
abbrev pub product_of : List (List ℕ) → Listed → Product
product_of names t =
    record { literals = map (literal_of names) t.literals; coefficient = t.coefficient }

-- the problem as written
abbrev pub problem_of : List Listed → ProblemContent
problem_of ts = record (with_variables blank (length (names_of ts))) {
  objective = map (product_of (names_of ts)) ts;
}

-- the problem in normal form, and the names of its variables
abbrev pub polynomial_of : List Listed → Polynomial
polynomial_of ts = record { problem = normal_form (problem_of ts); names = names_of ts }

-- the reading of words, as a problem in normal form with the names of its variables
unfoldable pub polynomial_of_words : List Word → Result Polynomial TextFault
polynomial_of_words ws = reading_of_words ws >>= λ ts. Ok (polynomial_of ts)

-- the reading of a text, as a problem in normal form with the names of its variables
unfoldable pub normal_reading : List ℕ → Result Polynomial TextFault
normal_reading text = reading text >>= λ ts. Ok (polynomial_of ts)

-- the problem that is read costs what its text costs, under every assignment
abbrev pub ReadingKeepsCosts : Type 0
ReadingKeepsCosts =
    (ts : List Listed) (x : List Bool) → problem_cost (normal_form (problem_of ts)) x ≡ poly_cost ts x
