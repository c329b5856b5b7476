use Rattle.conflict_clauses.proofs.Common.{◌≡◌, ◌+◌, ◌<◌, ◌≤◌, ◌^◌, products_total, are_apart, each_two}
use Rattle.conflict_clauses.proofs.Apart.{apart_beside}
use Rattle.conflict_clauses.proofs.conflicts.all_apart.Given as goal

-- the products that are left are apart, also from the least one before them
abbrev pub invariant-loop-product : goal.invariant-loop-product
invariant-loop-product l = record {
  rest : each_two (are_apart l.room) l.fn.products ≡ apart_beside l.room l.least l.product-iterator;
  few : l.least ≤ l.room + 1;
  small : products_total l.product-iterator < 2 ^ 100;
}
