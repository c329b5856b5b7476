-- What the forms of lists of literals say.
use Rattle.std.specs.Prelude.{List, map}
use Rattle.std.specs.Slice.Iter.{iter_rest}
use Rattle.literal_lists.specs.declared.literal.Literal.{Literal}
use Rattle.literal_lists.specs.declared.literal_lists.HeldLists.{HeldLists}
use Rattle.literal_lists.specs.declared.literal_lists.HeldLists.TheVariants.{Narrow, Wide}
use Rattle.literal_lists.specs.declared.literals.HeldLiterals.{HeldLiterals}
use Rattle.literal_lists.specs.declared.literals.HeldLiterals.TheVariants.{Codes, Listed}
use Rattle.literal_lists.specs.Codes.{literal_of}

-- the lists, as codes or as literals
abbrev pub lists_held : HeldLists → List (List Literal)
lists_held (Narrow lists) = lists
lists_held (Wide lists) = lists

-- the literals that are left, as codes or as literals
abbrev pub literals_held : HeldLiterals → List Literal
literals_held (Codes rest) = map literal_of (iter_rest rest)
literals_held (Listed rest) = iter_rest rest
