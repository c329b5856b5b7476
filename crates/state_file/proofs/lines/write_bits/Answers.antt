use Rattle.std.proofs.Common.{arith}
use Rattle.state_file.proofs.StateLines.{bits_more}
use Rattle.state_file.proofs.lines.write_bits.Goals as goal

pub loop-i-preserved : goal.loop-i-preserved
loop-i-preserved c =
    bits_more c.loop-i.bits c.args.state.now c.loop-i.i c.is_one.result (omega arith) (omega arith)
    c.is_one.ensures c.loop-i.invariant
