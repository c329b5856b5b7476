-- What the steps of the reader give: the readings of `Poly`, seen as parts of the problem.
use Rattle.std.specs.Prelude.{ℕ, ℤ, List, [], ◌++◌, length, map, fold, Result, Ok}
use Rattle.std.specs.Borrow.{Bor}
use Rattle.whole_text.specs.declared.faults.TextFault.{TextFault}
use Rattle.whole_text.specs.Tokens.{Word}
use Rattle.whole_text.specs.Steps.{◌>>=◌, integer_at}
use Rattle.whole_text.specs.Rows.{each, on_line, past_line}
use Rattle.literal_lists.specs.declared.literal.Literal.{Literal}
use Rattle.literal_lists.specs.Literals.{literal_set}
use Rattle.problem_form.specs.declared.terms.Product.{Product}
use Rattle.problem_form.specs.Problems.{ProblemContent}
use Rattle.problem_form.specs.NormalForm.{blank, with_variables, with_product}
use Rattle.poly_reader.specs.declared.listed.NamedRef.{NamedRef}
use Rattle.poly_reader.specs.Poly.{Named, Listed, literal_at, reading_of_words}
use Rattle.poly_reader.specs.Numbering.{names_after}
use Rattle.poly_reader.specs.Cost.{literal_of, product_of}

-- what lent names say
abbrev pub names_lent : List (Bor (List ℕ)) → List (List ℕ)
names_lent names = map (λ name. name.now) names

-- what a literal says
abbrev pub named_of : NamedRef → Named
named_of l = record { name = l.name.now; negated = l.negated }

-- literals by the numbers that their names have among those before and their own
abbrev pub numbered : List (List ℕ) → List Named → List Literal
numbered names ls = map (literal_of (names_after names ls)) ls

-- the set of others and of the literals up to the end of this line, all names so far, and what is
-- left
abbrev pub literals_read : ℕ → List (List ℕ) → List Literal → List Word
    → Result (List Literal × List (List ℕ) × List Word) TextFault
literals_read line names front ws =
    each literal_at (on_line line ws)
    >>= λ ls. Ok (
      literal_set (front ++ numbered names ls),
      names_after names ls,
      past_line line ws,
    )

-- the product of the literals of a list, as a set, and a coefficient
abbrev pub product_of_list : List Literal → ℤ → Product
product_of_list ls c = record { literals = literal_set ls; coefficient = c }

-- the product with this first word, of the set of its literals, all names so far, and what is left
abbrev pub product_read : List (List ℕ) → Word → List Word
    → Result (Product × List (List ℕ) × List Word) TextFault
product_read names w ws =
    integer_at w >>= λ c. literals_read w.line names [] ws
    >>= λ x. Ok (record { literals = x.0; coefficient = c }, x.1, x.2)

-- a problem and the names of its variables, with one more product
abbrev pub with_listed : ProblemContent × List (List ℕ) → Listed → ProblemContent × List (List ℕ)
with_listed p t =
    let names = names_after p.1 t.literals in
    (with_product (with_variables p.0 (length names)) (product_of names t), names)

-- a problem and the names of its variables, with the products of all words
abbrev pub products_put : ProblemContent × List (List ℕ) → List Word
    → Result (ProblemContent × List (List ℕ)) TextFault
products_put p ws = reading_of_words ws >>= λ ts. Ok (fold with_listed p ts)

-- the products of all words, put to a problem that says nothing
abbrev pub products_read : List Word → Result (ProblemContent × List (List ℕ)) TextFault
products_read ws = products_put (blank, []) ws
