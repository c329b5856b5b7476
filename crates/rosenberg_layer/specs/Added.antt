-- What a run of substitutions adds to the terms of lower degree.
use Rattle.std.specs.Prelude.{ℕ, List, ◌++◌, Option, ◌+◌, length}
use Rattle.std.specs.List.{filter}
use Rattle.term_table.specs.Terms.{Term}
use Rattle.term_table.specs.Tables.{TableContent}
use Rattle.rosenberg_layer.specs.declared.run.Substitutions.{Substitutions}
use Rattle.rosenberg_layer.specs.Parts.{ties_of, weights, AreParts, IsTurn}
use Rattle.rosenberg_layer.specs.Rosenberg.{Pair, is_long, run}
use Rattle.rosenberg_layer.specs.Steps.{is_short}

-- the touched terms of lower degree, and those that tie the new nodes, numbered from n on
abbrev pub moved_of : ℕ → Substitutions → List Term
moved_of n made = made.low.items ++ ties_of n made.pairs made.weights.items

-- what is gathered in the end: the terms of degree 2 or less, and what the substitutions moved
abbrev pub gathered_terms : TableContent → ℕ → Substitutions → List Term
gathered_terms t n made = filter is_short t.terms ++ moved_of n made

-- this is what so many turns leave of a table: the terms of degree 3 or more of the table after them,
-- and what is gathered, come to the whole of that table, and no weight is lost or grows
abbrev pub IsRunAfter : TableContent → (width turns : ℕ) → Substitutions → Type 0
IsRunAfter t width turns made =
    AreParts (run turns t) (gathered_terms t width made) (filter is_long (run turns t).terms)
    (weights t.terms)

-- one turn of a run over so many nodes, from some terms of degree 3 or more to others
abbrev pub TurnsRun : Option Pair → ℕ → List Term → Substitutions → List Term → Substitutions → Type 0
TurnsRun pair width long made long' made' =
    IsTurn pair (width + length made.pairs) long made.low.items made.pairs
    made.weights.items long' made'.low.items made'.pairs made'.weights.items
