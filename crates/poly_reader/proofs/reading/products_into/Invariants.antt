use Rattle.poly_reader.proofs.Common.{◌≡◌, ◌+◌, ◌*◌, ◌^◌, ◌<◌, [], length, left, problem_total, products_put, products_read}
use Rattle.poly_reader.proofs.reading.products_into.Given as goal

-- the problem so far, with the products that are left, is the problem of all; and each took a word
-- at least, and added less than 2 ^ 64 to the numbers of the problem
abbrev pub invariant-loop-next : goal.invariant-loop-next
invariant-loop-next l = record {
  read : products_put (l.problem, l.names) (left l.next l.words) ≡ products_read l.fn.words;
  small : problem_total l.problem + length (left l.next l.words) * 2 ^ 64 < 2 ^ 100;
  counted : l.problem.variables ≡ length l.names;
  emptied : l.list.items ≡ [];
}

abbrev pub decreases-loop-next : goal.decreases-loop-next
decreases-loop-next l = length (left l.next l.words)
