use Rattle.model_text.proofs.Common.{List, ap, map, Entry, rows_text, entry_row}
use Rattle.model_text.proofs.Puts.{put_more, put_fault}
use Rattle.model_text.proofs.lines.put_nodes.Goals as goal

pub returns-in_err-put_node : goal.returns-in_err-put_node
returns-in_err-put_node g c =
    let cut = ap (λ (es : List Entry). rows_text (map entry_row es)) c.in-Some.ensures.steps in
    put_fault _ _ c.from_residual.ensures.1 cut c.loop-entry.invariant c.in_err-put_node.ensures

pub loop-entry-preserved : goal.loop-entry-preserved
loop-entry-preserved g c =
    let cut = ap (λ (es : List Entry). rows_text (map entry_row es)) c.in-Some.ensures.steps in
    put_more cut c.loop-entry.invariant c.in_ok-put_node.ensures
