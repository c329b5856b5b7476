use Rattle.problem_form.proofs.Common.{◌≡◌, ◌≤◌, ◌++◌, length, take, drop, marked}
use Rattle.problem_form.proofs.constraint_list.keep_rows.Given as goal

-- the rows that were moved to the front, and the marked ones of those that are left
abbrev pub invariant-loop-i : goal.invariant-loop-i
invariant-loop-i l = record {
  behind : l.left ≤ l.i;
  long : length l.rows.items ≡ length l.initial.rows.items;
  whole : take l.left l.rows.items ++ marked (drop l.i l.kept) (drop l.i l.rows.items)
      ≡ marked l.kept l.initial.rows.items;
}
