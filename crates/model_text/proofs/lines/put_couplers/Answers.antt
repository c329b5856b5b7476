use Rattle.model_text.proofs.Common.{◌<◌, List, Entry, length, ap, sym, subst, arith, rows_of, flat_map, drop_all}
use Rattle.model_text.proofs.EntryLists.{entries_text, row_text_left, row_text_first}
use Rattle.model_text.proofs.Puts.{IsPut, put_none, put_more, put_fault, put_all}
use Rattle.model_text.proofs.lines.put_couplers.Goals as goal

pub returns-in_err-put_row : goal.returns-in_err-put_row
returns-in_err-put_row g c =
    let below : c.loop-index.index < length (rows_of c.args.couplers.now) = omega (arith, c.loop-index-test.true, c.row_count-index-end.ensures) in
    let cut = row_text_left c.args.couplers.now _ c.loop-index.index below c.row-row.ensures in
    put_fault _ _ c.from_residual.ensures.1 cut c.loop-index.invariant c.in_err-put_row.ensures

pub loop-index-preserved : goal.loop-index-preserved
loop-index-preserved g c =
    let below : c.loop-index.index < length (rows_of c.args.couplers.now) = omega (arith, c.loop-index-test.true, c.row_count-index-end.ensures) in
    let cut = row_text_left c.args.couplers.now _ c.loop-index.index below c.row-row.ensures in
    put_more cut c.loop-index.invariant c.in_ok-put_row.ensures

pub loop-index-init : goal.loop-index-init
loop-index-init g c =
    let told = g.S.Sink.taken c.args.sink.now in
    let faults = g.S.Sink.faults c.args.sink.now in
    let text = entries_text c.args.couplers.now in
    subst (IsPut told told faults faults c.args.buffer.now c.args.buffer.now text) (sym (row_text_first c.args.couplers.now)) put_none

pub returns : goal.returns
returns g c =
    let none = drop_all c.loop-index.index (rows_of c.args.couplers.now) (omega (arith, c.loop-index-test.false, c.row_count-index-end.ensures)) in
    put_all (ap (λ (rows : List (List Entry)). entries_text (flat_map (λ row. row) rows)) none) c.loop-index.invariant
