use Rattle.std.proofs.Common.{◌<◌, length, arith}
use Rattle.model_text.proofs.EntryLists.{entry_left}
use Rattle.model_text.proofs.Puts.{put_none, put_more, put_fault}
use Rattle.model_text.proofs.lines.put_row.Goals as goal

pub returns-in_err-put_entry : goal.returns-in_err-put_entry
returns-in_err-put_entry g c =
    let below : c.loop-index.index < length c.args.row.now = omega (arith, c.loop-index-test.true, c.len-index-end.ensures) in
    let cut = entry_left c.args.row.now c.loop-index.index c.entry_at-entry.result below c.entry_at-entry.ensures in
    put_fault _ _ c.from_residual.ensures.1 cut c.loop-index.invariant c.in_err-put_entry.ensures

pub loop-index-preserved : goal.loop-index-preserved
loop-index-preserved g c =
    let below : c.loop-index.index < length c.args.row.now = omega (arith, c.loop-index-test.true, c.len-index-end.ensures) in
    let cut = entry_left c.args.row.now c.loop-index.index c.entry_at-entry.result below c.entry_at-entry.ensures in
    put_more cut c.loop-index.invariant c.in_ok-put_entry.ensures

pub loop-index-init : goal.loop-index-init
loop-index-init g c = put_none
