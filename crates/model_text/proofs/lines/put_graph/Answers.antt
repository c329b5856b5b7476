use Rattle.model_text.proofs.Common.{sym, ap, append-nil, refl, Kind, rows_text, graph_rows}
use Rattle.model_text.proofs.Puts.{put_none, put_more, put_fault, put_all}
use Rattle.model_text.proofs.lines.put_graph.Goals as goal

pub returns-in_err-put_graph_row-clause-put : goal.returns-in_err-put_graph_row-clause-put
returns-in_err-put_graph_row-clause-put g c =
    let cut = ap (λ (kind : Kind). rows_text (graph_rows kind c.args.chains.now)) c.in-Qubits.is in
    put_fault _ _ c.from_residual.ensures.1 cut put_none c.in_err-put_graph_row.ensures.put

pub returns-in_err-put_chains-clause-put : goal.returns-in_err-put_chains-clause-put
returns-in_err-put_chains-clause-put g c =
    let cut = ap (λ (kind : Kind). rows_text (graph_rows kind c.args.chains.now)) c.in-Qubits.is in
    let sized = put_more cut put_none c.in_ok-put_graph_row.ensures.put in
    put_fault _ _ c.from_residual-in_err-put_chains.ensures.1 (sym (append-nil _)) sized c.in_err-put_chains.ensures

pub returns-in_ok-put_chains-clause-put : goal.returns-in_ok-put_chains-clause-put
returns-in_ok-put_chains-clause-put g c =
    let cut = ap (λ (kind : Kind). rows_text (graph_rows kind c.args.chains.now)) c.in-Qubits.is in
    let sized = put_more cut put_none c.in_ok-put_graph_row.ensures.put in
    put_all refl (put_more (sym (append-nil _)) sized c.in_ok-put_chains.ensures)
