use Rattle.term_table.proofs.Common.{◌≡◌, ◌≢◌, ◌+◌, ◌*◌, ◌≤◌, ◌^◌, ◌++◌, unsigned_abs, pos, All, terms_total, pairs_with, pair_products, IsFactor}
use Rattle.term_table.proofs.products.gather_row.Given as goal

-- the products so far, and those of the pairs that are left, are all; and those that are left fit
abbrev pub invariant-loop-ks : goal.invariant-loop-ks
invariant-loop-ks l = record {
  made : l.into.terms ++ pair_products l.factor (pairs_with (l.ls, l.a) l.ks-iterator) ≡ l.fn.into.terms ++ pair_products l.factor (pairs_with (l.ls, l.a) l.other.content.terms);
  width : l.into.width ≡ l.fn.into.width;
  small : terms_total l.into.terms + unsigned_abs l.factor * (unsigned_abs l.a * terms_total l.ks-iterator) ≤ 2 ^ 124;
  sets : All (λ t. IsFactor l.fn.into.width t.0) l.ks-iterator;
  some : All (λ t. t.1 ≢ pos 0) l.ks-iterator;
}
