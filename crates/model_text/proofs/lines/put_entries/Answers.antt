use Rattle.model_text.proofs.EntryLists.{both_texts}
use Rattle.model_text.proofs.Puts.{put_none, put_more, put_fault, put_last}
use Rattle.model_text.proofs.lines.put_entries.Goals as goal

pub returns-in_err-put_nodes : goal.returns-in_err-put_nodes
returns-in_err-put_nodes g c =
    let cut = both_texts c.entries.inside.nodes c.entries.inside.couplers c.args.entries.now c.entries.view_is in
    put_fault _ _ c.from_residual.ensures.1 cut put_none c.in_err-put_nodes.ensures

pub returns : goal.returns
returns g c =
    let cut = both_texts c.entries.inside.nodes c.entries.inside.couplers c.args.entries.now c.entries.view_is in
    put_last (put_more cut put_none c.in_ok-put_nodes.ensures) c.put_couplers.ensures
