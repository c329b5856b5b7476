use Rattle.quadratization.proofs.Common.{◌≡◌, ◌++◌, map, drop, All, flat_map, places_at, pair_part, head_of, IsHead}
use Rattle.quadratization.proofs.rows.add_places.Given as goal

-- the places that are left make the row and the heads those of all
abbrev pub invariant-loop-index : goal.invariant-loop-index
invariant-loop-index l = record {
  whole :
      l.row ++ flat_map pair_part (places_at l.long l.variable (drop l.index-index l.indices))
      ≡ l.initial.row ++ flat_map pair_part (places_at l.long l.variable l.indices);
  heads : l.heads.items ++ map head_of (places_at l.long l.variable (drop l.index-index l.indices))
      ≡ map head_of (places_at l.long l.variable l.indices);
  kept : All IsHead l.heads.items;
}
