use Rattle.working_graph.proofs.Common.{◌≡◌, ◌≤◌, length, map, clique_places, clique_chain, fabric_of, taken_of, AreMarked}
use Rattle.working_graph.proofs.taken.take_places.Given as goal

-- the chains of those that are taken so far, their marks, and no more than are asked for
abbrev pub invariant-loop-place : goal.invariant-loop-place
invariant-loop-place l =
    let graph = l.working.graph in
    let xs = taken_of (fabric_of l.working) (clique_chain graph) l.place in
    (l.taken ≡ map (clique_chain graph) xs) × AreMarked l.marks xs
    × (length l.marks ≡ clique_places graph) × (length l.taken ≤ l.nodes)
