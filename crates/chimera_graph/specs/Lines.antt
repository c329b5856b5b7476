-- Where the joins of a qubit of a Chimera graph can be: in its cell, and in its line.
use Rattle.std.specs.Prelude.{ℕ, ◌+◌, ◌-◌, ◌*◌, ◌==◌, Bool, if◌then◌else◌}
use Rattle.hardware.specs.declared.hardware.Others.{Others}
use Rattle.chimera_graph.specs.declared.chimera.Chimera.{Chimera}
use Rattle.hardware.specs.declared.span.Span.{Span}
use Rattle.chimera_graph.specs.Graph.{index_of, place_of}

-- The other side of its cell. Each qubit is joined to all qubits of the other side of its cell.
abbrev pub facing_of : Chimera → ℕ → Span
facing_of graph a =
    let p = place_of graph a in
    let start = index_of graph (record { row = p.row; col = p.col; side = 1 - p.side; at = 0 }) in
    record { start = start; end = start + graph.shore }

-- how far apart the numbers of two neighbours in a line are: in a column on side 0, in a row on side 1
abbrev pub step_of : Chimera → ℕ → ℕ
step_of graph a = if (place_of graph a).side == 0 then 2 * graph.cols * graph.shore else 2 * graph.shore

-- it is in the first cell of its line
abbrev pub is_first : Chimera → ℕ → Bool
is_first graph a = let p = place_of graph a in if p.side == 0 then p.row == 0 else p.col == 0

-- it is in the last cell of its line
abbrev pub is_last : Chimera → ℕ → Bool
is_last graph a =
    let p = place_of graph a in
    if p.side == 0 then p.row + 1 == graph.rows else p.col + 1 == graph.cols

-- The places of the others, which have its side and number in the cells before and after: 0 and 1, where
-- there are such.
abbrev pub others_of : Chimera → ℕ → Others
others_of graph a = record {
  start = if is_first graph a then 1 else 0;
  end = if is_last graph a then 1 else 2;
}

-- the one before or the one after
abbrev pub other_of : Chimera → ℕ → ℕ → ℕ
other_of graph a k = if k == 0 then a - step_of graph a else a + step_of graph a
