use Rattle.quadratization.proofs.Common.{◌≡◌, ℕ, ◌<◌, ◌++◌, drop, row_of, AreFromRow}
use Rattle.quadratization.proofs.rows.add_pairs.Given as goal

-- the pairs that are left make the row that of all, and have all later rows
abbrev pub invariant-loop-i : goal.invariant-loop-i
invariant-loop-i l = record {
  whole : l.row ++ row_of l.variable (drop l.i l.pairs)
      ≡ l.initial.row ++ row_of l.variable (drop l.start l.pairs);
  from : AreFromRow l.variable (drop l.i l.pairs);
  same : (j : ℕ) → l.variable < j → row_of j (drop l.i l.pairs) ≡ row_of j (drop l.start l.pairs);
}
