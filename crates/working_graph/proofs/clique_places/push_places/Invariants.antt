use Rattle.working_graph.proofs.Common.{◌≡◌, ◌++◌, ◌<◌, map, take, diagonal_of, clique_place}
use Rattle.working_graph.proofs.clique_places.push_places.Given as goal

-- the places of the couplings so far are added, and the last node is in a cell of the diagonal
abbrev pub invariant-loop-k : goal.invariant-loop-k
invariant-loop-k l = record {
  places : l.places.items ≡ l.fn.places.items ++ map (clique_place l.graph) (take l.k l.row);
  cell : l.second.cell < diagonal_of l.graph;
}
