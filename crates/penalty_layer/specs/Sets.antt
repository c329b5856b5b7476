-- The sets of a constraint's products.
use Rattle.std.specs.Prelude.{◌≡◌, false, List}
use Rattle.std.specs.List.Sorted.{IsStrictlySortedBy}
use Rattle.literal_lists.specs.declared.literal.Literal.{Literal}
use Rattle.literal_lists.specs.Literals.{literal_cmp, has_clash}

-- Ascending literals, none beside its complement. So the product of such a set is true for some
-- assignment.
pub record IsSet (ls : List Literal) : Type 0 where
  -- by their variables, none of them twice
  pub ordered : IsStrictlySortedBy literal_cmp ls
  -- no variable stands in it both plain and complemented
  pub apart : has_clash ls ≡ false
