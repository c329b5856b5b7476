-- Additions of terms, the table of their sums, and their short and long terms apart.
use Rattle.std.specs.Prelude.{Bool, not, List, []}
use Rattle.std.specs.List.{filter}
use Rattle.term_table.specs.Terms.{Term, with_additions}
use Rattle.term_table.specs.Tables.{TableContent}
use Rattle.monomial_layer.specs.Monomials.{is_low}

-- the table of additions
abbrev pub table_of : TableContent → TableContent
table_of t = record { width = t.width; terms = with_additions [] t.terms }

-- three literals or more
abbrev pub is_long : Term → Bool
is_long t = not (is_low t)

-- the additions of at most two literals, in the order in which they came
abbrev pub short_terms : List Term → List Term
short_terms ts = filter is_low ts

-- the additions of three literals or more, in the order in which they came
abbrev pub long_additions : List Term → List Term
long_additions ts = filter is_long ts

-- the sums of the additions of three literals or more, in the order of a table
abbrev pub long_terms : List Term → List Term
long_terms ts = with_additions [] (long_additions ts)
