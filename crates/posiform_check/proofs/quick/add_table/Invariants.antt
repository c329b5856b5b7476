use Rattle.posiform_check.proofs.Common.{◌≡◌, ◌+ℤ◌, List, Literal, coefficient_of}
use Rattle.posiform_check.proofs.quick.add_table.Given as goal

-- the sums and the terms that are left are the sums at first and all terms
abbrev pub invariant-loop-set : goal.invariant-loop-set
invariant-loop-set l =
    (set : List Literal) → coefficient_of set l.sums +ℤ coefficient_of set l.set-iterator
    ≡ coefficient_of set l.fn.sums +ℤ coefficient_of set l.table.content.terms
