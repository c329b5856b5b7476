use Rattle.std.proofs.Common.{◌∙◌, ◌&&◌, arith, sym}
use Rattle.state_file.proofs.StateLines.{bytes_more}
use Rattle.state_file.proofs.reading.are_bits.Goals as goal

pub loop-byte-preserved : goal.loop-byte-preserved
loop-byte-preserved c =
    (λ k. c.loop-byte.invariant k && c.is_bit-all.ensures k)
    ∙ sym (bytes_more c.args.bytes.now c.loop-byte.byte-index (omega arith))
