use Rattle.basic_solve.proofs.Common.{◌≡◌, ◌+◌, ◌^◌, ◌≤◌, ◌+ℤ◌, List, [], ◌∷◌, ◌++◌, Bool, length, map, drop, sum_by, total_by, value_at, table_energy, own_energy, own_size, most}
use Rattle.basic_solve.proofs.elimination.write_table.Given as goal

-- the numbers so far, and the tables that are left
abbrev pub invariant-loop-table : goal.invariant-loop-table
invariant-loop-table g l =
    (length (map g.T.Number.value l.values.items) ≡ 2 ^ length l.nodes)
    × ((y : List Bool) → length y ≡ l.node
    → value_at l.nodes (map g.T.Number.value l.values.items) y
    +ℤ total_by (table_energy (y ++ l.bit ∷ [])) (drop l.table-index l.tables)
    ≡ own_energy l.fn.kind l.entries l.tables y l.bit)
    × (most (map g.T.Number.value l.values.items) + sum_by (λ t. most t.values) (drop l.table-index l.tables)
    ≤ own_size l.entries l.tables)
