-- The problem that a text of entries becomes.
use Rattle.std.specs.Prelude.{ℕ, ℤ, pos, negsuc, ◌*ℤ◌, neg_ℤ, false, List, [], ◌∷◌, ◌==◌, map, Result, Ok, if◌then◌else◌}
use Rattle.std.specs.List.{flat_map}
use Rattle.whole_text.specs.declared.faults.TextFault.{TextFault}
use Rattle.whole_text.specs.Tokens.{Word}
use Rattle.whole_text.specs.Steps.{◌>>=◌}
use Rattle.literal_lists.specs.declared.literal.Literal.{Literal}
use Rattle.problem_form.specs.declared.terms.Product.{Product}
use Rattle.problem_form.specs.Problems.{ProblemContent}
use Rattle.problem_form.specs.NormalForm.{normal_form, blank, with_variables}
use Rattle.entry_reader.specs.declared.layout.Layout.{Layout}
use Rattle.entry_reader.specs.declared.layout.Layout.TheVariants.{Qubo, Ising}
use Rattle.entry_reader.specs.declared.layout.Counts.{Counts}
use Rattle.entry_reader.specs.declared.layout.Listed.{Listed}
use Rattle.entry_reader.specs.Entries.{Listing, entries_at, listing_of, reading}

-- ---- the products of an entry

-- a variable, not complemented
abbrev pub plain : ℕ → Literal
plain i = record { variable = i; negated = false }

-- a number times variables
abbrev pub times : ℤ → List ℕ → Product
times c variables = record { literals = map plain variables; coefficient = c }

-- a field times the spin 2x - 1: less the field, and twice the field times x
abbrev pub field_products : ℤ → ℕ → List Product
field_products field i = times (neg_ℤ field) [] ∷ times (pos 2 *ℤ field) (i ∷ []) ∷ []

-- a coupling times the spins 2x - 1 and 2y - 1: the coupling, four times it times both variables, and
-- less twice it times each
abbrev pub coupling_products : ℤ → ℕ → ℕ → List Product
coupling_products coupling i j =
    times coupling []
    ∷ times (pos 4 *ℤ coupling) (i ∷ j ∷ [])
    ∷ times (negsuc 1 *ℤ coupling) (i ∷ [])
    ∷ times (negsuc 1 *ℤ coupling) (j ∷ [])
    ∷ []

-- the products of an entry: the weight times both variables, which are one for a node entry, or
-- those of a field or a coupling
abbrev pub products_of : Layout → Listed → List Product
products_of Qubo e = times e.weight (e.first ∷ e.second ∷ []) ∷ []
products_of Ising e =
    if e.first == e.second
    then field_products e.weight e.first
    else coupling_products e.weight e.first e.second

-- ---- the problem

-- the problem as written: the products of the entries, one after the other
abbrev pub problem_of : Layout → Listing → ProblemContent
problem_of layout s =
    record (with_variables blank s.nodes) { objective = flat_map (products_of layout) s.entries }

-- the reading of words, as a problem in normal form
unfoldable pub problem_of_words : Layout → List Word → Result ProblemContent TextFault
problem_of_words layout ws = listing_of layout ws >>= λ s. Ok (normal_form (problem_of layout s))

-- the reading of a text, as a problem in normal form
unfoldable pub normal_reading : Layout → List ℕ → Result ProblemContent TextFault
normal_reading layout text = reading layout text >>= λ s. Ok (normal_form (problem_of layout s))

-- ---- what the steps of the reader give

-- the problem of these entries
abbrev pub listed_problem : Layout → ℕ → List Listed → ProblemContent
listed_problem layout nodes es =
    normal_form (problem_of layout (record { nodes = nodes; entries = es }))

-- the problem of the entries up to the end of the words
abbrev pub problem_read : Layout → ℕ → Counts → List Word → Result ProblemContent TextFault
problem_read layout end c ws = entries_at end c ws >>= λ es. Ok (listed_problem layout c.nodes es)
