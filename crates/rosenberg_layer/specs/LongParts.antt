-- The terms of degree 3 or more alone, from one turn of a run to the next.
use Rattle.std.specs.Prelude.{◌+◌, List, [], map, Option, Some, None}
use Rattle.std.specs.List.{filter}
use Rattle.literal_lists.specs.declared.literal.Literal.{Literal}
use Rattle.term_table.specs.Terms.{Term, with_additions}
use Rattle.term_table.specs.Tables.{TableContent}
use Rattle.rosenberg_layer.specs.Rosenberg.{Pair, node, is_long, new_term}

-- a table without its terms of degree 2 or less
abbrev pub long_part : TableContent → TableContent
long_part t = record t { terms = filter is_long t.terms }

-- what becomes of a term when a node stands for a pair, if there is one
abbrev pub term_after : Option Pair → Literal → Term → Term
term_after None w t = t
term_after (Some pair) w t = new_term pair w t

-- what becomes of terms when a node stands for a pair, where that is of degree 3 or more
abbrev pub long_after : Pair → Literal → List Term → List Term
long_after pair w ts = filter is_long (map (new_term pair w) ts)

-- .. for a table, whose next node stands for the pair, if there is one
abbrev pub after_turn : Option Pair → TableContent → TableContent
after_turn None t = t
after_turn (Some pair) t = record {
  width = t.width + 1;
  terms = with_additions [] (long_after pair (node t.width) t.terms);
}
