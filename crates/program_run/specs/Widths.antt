-- Which node is named where a model is too wide to be solved, as a statement.
use Rattle.std.specs.Prelude.{◌≡◌, ℕ, [], Some, None}
use Rattle.bits_model.specs.Output.{Written}
use Rattle.basic_solve.specs.Widths.{IsWithinWidth, IsFirstWider}
use Rattle.elimination_order.specs.Widths.{first_wide, from_last}

-- in the order from the last node to the first: none where no node has more than 16 neighbours when it
-- is eliminated, and else the first one that has, with its width
pub record TheFirstWideNodeIsNamed : Type 0 where
  pub none : (m : Written) → IsWithinWidth 16 m → first_wide 16 m [] (from_last m.nodes) ≡ None
  pub first : (m : Written) (v w : ℕ) → IsFirstWider 16 m v w
      → first_wide 16 m [] (from_last m.nodes) ≡ Some (v, w)
