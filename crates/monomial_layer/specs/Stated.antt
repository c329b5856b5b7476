-- What the replaced terms promise beside their costs.
use Rattle.std.specs.Prelude.{◌+◌, ◌≤◌, length}
use Rattle.term_table.specs.Terms.{Term}
use Rattle.term_table.specs.Tables.{TableContent, IsLow}
use Rattle.monomial_layer.specs.Monomials.{new_nodes, image}

-- A term of degree d, of 3 or more, has at most d - 2 new nodes. So all new nodes are at most what
-- the degrees above 2 come to, which the limits count.
abbrev pub AddsFewNodes : Type 0
AddsFewNodes = (t : Term) → 3 ≤ length t.0 → new_nodes t + 2 ≤ length t.0

-- No term of an image has more than two literals. So the image is a quadratic form, which the next
-- step takes.
abbrev pub ImagesAreLow : Type 0
ImagesAreLow = (t : TableContent) → IsLow (image t)
