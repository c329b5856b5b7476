use Rattle.quadratization.proofs.Common.{◌≡◌, ◌≤◌, ◌++◌, [], ℕ, drop, flat_map, place_couplers, all_places, node_count, row_of, AreRows, AreFromRow}
use Rattle.quadratization.proofs.rows.push_rows.Given as goal

-- the first rows stand, the next one has nothing yet, and the pairs of all later variables are left
abbrev pub invariant-loop-variable : goal.invariant-loop-variable
invariant-loop-variable l = record {
  rows : AreRows (node_count l.long) l.variable
      (l.pairs ++ flat_map place_couplers (all_places l.long.terms l.long.width)) l.couplers;
  none : l.row ≡ [];
  pairs : AreFromRow l.variable (drop l.start l.pairs);
  pair_runs : (v : ℕ) → l.variable ≤ v → row_of v (drop l.start l.pairs) ≡ row_of v l.pairs;
}
