use Rattle.posiform_check.proofs.Common.{◌≡◌, ◌+ℤ◌, List, flat_map, Literal, coefficient_of, entry_terms}
use Rattle.posiform_check.proofs.quick.take_entries.Given as goal

-- the sums less the entries that are left are those at first less all
abbrev pub invariant-loop-entry : goal.invariant-loop-entry
invariant-loop-entry l =
    (set : List Literal) → coefficient_of set l.fn.sums
    +ℤ coefficient_of set (flat_map (entry_terms l.kind) l.entry-iterator)
    ≡ coefficient_of set l.sums +ℤ coefficient_of set (flat_map (entry_terms l.kind) l.entries)
