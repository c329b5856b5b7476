use Rattle.working_graph.proofs.Common.{◌≡◌, map, rows_before, clique_place}
use Rattle.working_graph.proofs.clique_places.all_places.Given as goal

-- the places of the couplings of the rows so far
abbrev pub invariant-loop-k : goal.invariant-loop-k
invariant-loop-k l = l.places.items ≡ map (clique_place l.graph) (rows_before l.couplings l.k)
