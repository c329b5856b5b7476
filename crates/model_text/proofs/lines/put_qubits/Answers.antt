use Rattle.model_text.proofs.Common.{◌≡◌, get_or, rules, decimal}
use Rattle.model_text.proofs.Puts.{put_none, put_more, put_fault}
use Rattle.model_text.proofs.RowPieces.{qubits_left}
use Rattle.model_text.proofs.lines.put_qubits.Goals as goal

pub returns-in_err-put_pieces : goal.returns-in_err-put_pieces
returns-in_err-put_pieces g c =
    let qs = c.args.qubits.now in
    let i = c.loop-qubit.qubit-index in
    let number : c.as_bytes-number.result.now ≡ decimal (get_or qs i 0) = search rules in
    let cut = qubits_left qs i _ c.loop-qubit-test.true number in
    put_fault _ _ c.from_residual.ensures.1 cut c.loop-qubit.invariant c.in_err-put_pieces.ensures

pub loop-qubit-preserved : goal.loop-qubit-preserved
loop-qubit-preserved g c =
    let qs = c.args.qubits.now in
    let i = c.loop-qubit.qubit-index in
    let number : c.as_bytes-number.result.now ≡ decimal (get_or qs i 0) = search rules in
    let cut = qubits_left qs i _ c.loop-qubit-test.true number in
    put_more cut c.loop-qubit.invariant c.in_ok-put_pieces.ensures

pub loop-qubit-init : goal.loop-qubit-init
loop-qubit-init g c = put_none
