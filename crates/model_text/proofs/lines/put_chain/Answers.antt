use Rattle.model_text.proofs.Common.{◌≡◌, refl, rules, decimal}
use Rattle.model_text.proofs.Puts.{put_none, put_more, put_fault, put_last}
use Rattle.model_text.proofs.RowPieces.{chain_pieces}
use Rattle.model_text.proofs.lines.put_chain.Goals as goal

pub returns-in_err-put_pieces : goal.returns-in_err-put_pieces
returns-in_err-put_pieces g c =
    let number : c.as_bytes-number.result.now ≡ decimal c.args.node = search rules in
    put_fault _ _ c.from_residual.ensures.1 (chain_pieces c.args.node c.args.qubits.now _ number) put_none c.in_err-put_pieces.ensures

pub returns-in_err-put_qubits : goal.returns-in_err-put_qubits
returns-in_err-put_qubits g c =
    let number : c.as_bytes-number.result.now ≡ decimal c.args.node = search rules in
    let named = put_more (chain_pieces c.args.node c.args.qubits.now _ number) put_none c.in_ok-put_pieces.ensures in
    put_fault _ _ c.from_residual-in_err-put_qubits.ensures.1 refl named c.in_err-put_qubits.ensures

pub returns : goal.returns
returns g c =
    let number : c.as_bytes-number.result.now ≡ decimal c.args.node = search rules in
    let named = put_more (chain_pieces c.args.node c.args.qubits.now _ number) put_none c.in_ok-put_pieces.ensures in
    put_last (put_more refl named c.in_ok-put_qubits.ensures)
    (record { passed = c.put.ensures.passed; front = c.put.ensures.front; lost = c.put.ensures.lost; cause = c.put.ensures.cause })
