-- A term, given by its literals and its coefficient.
use Rattle.std.specs.Prelude.{ℤ, List}
use Rattle.literal_lists.specs.declared.literal.Literal.{Literal}
use Rattle.term_table.specs.Terms.{Term}

-- the term of these literals
abbrev pub term_of : List Literal → ℤ → Term
term_of ls c = (ls, c)
