use Rattle.conflict_clauses.proofs.Common.{◌≡◌, ◌++◌, map, not, true, filter, list_all, is_needed, is_single, wanted, alone}
use Rattle.conflict_clauses.proofs.clauses.take_wanted.Given as goal

-- the literals so far, and those that the products that are left are wanted for, are all
abbrev pub invariant-loop-product : goal.invariant-loop-product
invariant-loop-product l = record {
  needed : map alone l.lists.needed.items ++ map (wanted true) (filter (is_needed l.room) l.product-iterator)
      ≡ map (wanted true) (filter (is_needed l.room) l.fn.products);
  others : map alone l.lists.others.items
      ++ map (wanted true) (filter (λ t. not (is_needed l.room t)) l.product-iterator)
      ≡ map (wanted true) (filter (λ t. not (is_needed l.room t)) l.fn.products);
  single : list_all is_single l.product-iterator ≡ true;
}
