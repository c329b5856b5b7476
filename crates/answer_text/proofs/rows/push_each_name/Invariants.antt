use Rattle.answer_text.proofs.Common.{◌≡◌, ◌++◌, drop, rows_text, named_rows}
use Rattle.answer_text.proofs.rows.push_each_name.Given as goal

-- with the rows of the names that are left, the text is whole
abbrev pub invariant-loop-i : goal.invariant-loop-i
invariant-loop-i l =
    l.text.items ++ rows_text (drop l.i (named_rows l.names l.bits))
    ≡ l.fn.text.items ++ rows_text (named_rows l.names l.bits)
