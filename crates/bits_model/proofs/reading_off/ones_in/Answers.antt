use Rattle.bits_model.proofs.Common.{◌+◌, sym, ap, ◌∙◌, arith, bit_at}
use Rattle.std.proofs.lemmas.List.Sums.{count_by_more_yes, count_by_more_no}
use Rattle.bits_model.proofs.reading_off.ones_in.Goals.{then-bit_at, else-bit_at}
use Rattle.bits_model.proofs.reading_off.ones_in.Goals as goal

pub loop-qubit-preserved : goal.loop-qubit-preserved
loop-qubit-preserved c =
    let qubits = c.args.chain.now in
    let i = c.loop-qubit.qubit-index in
    elim c.if-bit_at.branch [
      | then-bit_at w ↦ w.ones-is ∙ ap (λ n. n + 1) c.loop-qubit.invariant
          ∙ sym (count_by_more_yes (bit_at c.args.y.now) qubits i 0 (omega arith) (sym c.bit_at.ensures ∙ w.if-bit_at.true))
      | else-bit_at w ↦ w.ones-is ∙ c.loop-qubit.invariant
          ∙ sym (count_by_more_no (bit_at c.args.y.now) qubits i 0 (omega arith) (sym c.bit_at.ensures ∙ w.if-bit_at.false))
    ]
