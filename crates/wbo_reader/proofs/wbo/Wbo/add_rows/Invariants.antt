use Rattle.wbo_reader.proofs.Lemmas.{◌≡◌, ◌+◌, drop, length, not, count_by, rows_of, with_rows, rows_left}
use Rattle.wbo_reader.proofs.wbo.Wbo.add_rows.Given as goal

-- the problem so far, with the rows that are left, has all rows; and the order that is left has as
-- many of each kind as are left
abbrev pub invariant-loop-is_soft : goal.invariant-loop-is_soft
invariant-loop-is_soft l = record {
  rows : with_rows l.problem
      (rows_left (drop l.is_soft-index l.is_soft-items) l.hard l.self-inside.hard
      l.self-inside.variables l.soft l.self-inside.soft) ≡ with_rows l.fn.problem (rows_of l.self);
  hard_left : l.hard + count_by not (drop l.is_soft-index l.is_soft-items)
      ≡ length l.self-inside.hard;
  soft_left : l.soft + count_by (λ b. b) (drop l.is_soft-index l.is_soft-items)
      ≡ length l.self-inside.soft;
}
