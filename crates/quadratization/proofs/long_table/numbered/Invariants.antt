use Rattle.quadratization.proofs.Common.{◌≡◌, map, take, terms_of, product_term, first_nodes, node_count}
use Rattle.quadratization.proofs.long_table.numbered.Given as goal

-- the terms so far are numbered
abbrev pub invariant-loop-i : goal.invariant-loop-i
invariant-loop-i l = record {
  firsts : l.first_nodes.items ≡ first_nodes l.width (map product_term (take l.i l.products));
  next : l.next ≡ node_count (terms_of l.width (take l.i l.products));
}
