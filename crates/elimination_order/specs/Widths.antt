-- The widths of nodes that are eliminated in any order.
use Rattle.std.specs.Prelude.{ℕ, Bool, List, [], ◌∷◌, ◌++◌, reverse, Option, Some, None, nat_lt, if◌then◌else◌}
use Rattle.std.specs.List.{count_by, range_with_len}
use Rattle.bits_model.specs.Output.{Written}
use Rattle.basic_solve.specs.Widths.{coupled, without}

-- the graph after these nodes are eliminated, one after another
abbrev pub after_nodes : List ℕ → (ℕ → ℕ → Bool) → ℕ → ℕ → Bool
after_nodes [] near = near
after_nodes (v ∷ vs) near = after_nodes vs (without v near)

-- how many neighbours a node has after others are eliminated
abbrev pub width_after : Written → List ℕ → ℕ → ℕ
width_after m before v =
    count_by (λ u. after_nodes before (coupled m.entries) u v) (range_with_len 0 m.nodes)

-- the first of these nodes that has more than so many neighbours when it is eliminated after others,
-- and how many it has
abbrev pub first_wide : ℕ → Written → List ℕ → List ℕ → Option (ℕ × ℕ)
first_wide most m before [] = None
first_wide most m before (v ∷ vs) =
    if nat_lt most (width_after m before v)
    then Some (v, width_after m before v)
    else first_wide most m (before ++ v ∷ []) vs

-- the usual order: from the last of so many nodes to node 0
abbrev pub from_last : ℕ → List ℕ
from_last nodes = reverse (range_with_len 0 nodes)
