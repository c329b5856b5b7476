use Rattle.chain_map.proofs.Common.{◌+◌, inl, inr, [], length, ap, ◌∙◌, arith, slice_range, cases_lt, take_rest, err_from_is_err_and, tokens_of_line, Fails, lines_from, line_cut, line_last, rows_from, chain_at, chains_at, after_front, reading, Plain}
use Rattle.chain_map.proofs.Rows.{front_none, row_more, row_fails, rows_end, rows_next, rows_last}
use Rattle.chain_map.proofs.reading.read_map.Goals as goal

pub loop-qubits-init : goal.loop-qubits-init
unfolding reading
loop-qubits-init c =
    let rows = rows_from 1 (lines_from c.args.text.now 0) in
    record {
      within = omega arith;
      few = omega arith;
      read = ap (λ map. after_front map (chains_at (length map) rows)) c.new-map.ensures
          ∙ front_none (chains_at 0 rows);
    }

pub returns-in_err-push_row : goal.returns-in_err-push_row
returns-in_err-push_row c =
    let text = c.args.text.now in
    let start = c.loop-qubits.start in
    let n = c.line_len.result in
    let line = c.loop-qubits.line in
    let map = c.loop-qubits.map in
    let here = slice_range text start (start + n) in
    let said = tokens_of_line Plain line here in
    let first = rw (take_rest text start) at c.line_len.ensures.first in
    let e = c.in_err-push_row.field-0.0 in
    let fails : Fails e (after_front map (chain_at (length map) said)) = c.in_err-push_row.ensures in
    let p = err_from_is_err_and c.from_residual.result c.from_residual.ensures.1 in
    let read = c.loop-qubits.invariant.read in
    rw (p.1, p.2, ← read)
    (elim (cases_lt (start + n) (length text)) [
      | inl low ↦
          rw (rows_next line here (lines_from text start) _ (line_cut text start n first low))
          (row_fails map said _ e fails)
      | inr high ↦
          let last = line_last text start n c.loop-qubits.invariant.within first (omega (arith, high)) in
          rw (rows_last line here (lines_from text start) last) (row_fails map said [] e fails)
    ])

pub returns-then-end-text : goal.returns-then-end-text
returns-then-end-text c =
    let text = c.args.text.now in
    let start = c.loop-qubits.start in
    let line = c.loop-qubits.line in
    let map = c.loop-qubits.map in
    let new = c.push_row.new.map in
    let here = slice_range text start (start + c.line_len.result) in
    let first = rw (take_rest text start) at c.line_len.ensures.first in
    let last = line_last text start c.line_len.result c.loop-qubits.invariant.within first c.if-end-text.true in
    let taken = row_more map new (tokens_of_line Plain line here) [] c.in_ok-push_row.ensures in
    cc (c.loop-qubits.invariant.read, rows_last line here (lines_from text start) last, taken, rows_end new (length new))

pub loop-qubits-preserved : goal.loop-qubits-preserved
loop-qubits-preserved c =
    let text = c.args.text.now in
    let start = c.loop-qubits.start in
    let n = c.line_len.result in
    let line = c.loop-qubits.line in
    let map = c.loop-qubits.map in
    let here = slice_range text start (start + n) in
    let first = rw (take_rest text start) at c.line_len.ensures.first in
    let after = lines_from text (start + n + 1) in
    let taken = row_more map c.push_row.new.map (tokens_of_line Plain line here)
    (rows_from (line + 1) after) c.in_ok-push_row.ensures in
    let rows = rows_next line here (lines_from text start) after (line_cut text start n first (omega arith)) in
    record {
      within = omega arith;
      few = omega arith;
      read = cc (taken, rows, c.loop-qubits.invariant.read);
    }
