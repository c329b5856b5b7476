-- Terms behind literals that were taken already.
use Rattle.std.specs.Prelude.{List, ◌++◌, map}
use Rattle.literal_lists.specs.declared.literal.Literal.{Literal}
use Rattle.term_table.specs.Terms.{Term}

-- each term, with these literals in front
abbrev pub behind : List Literal → List Term → List Term
behind ls ts = map (λ t. (ls ++ t.0, t.1)) ts
