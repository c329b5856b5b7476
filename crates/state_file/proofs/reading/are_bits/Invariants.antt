use Rattle.state_file.proofs.Common.{◌≡◌, take, list_all, is_bit}
use Rattle.state_file.proofs.reading.are_bits.Given as goal

-- whether each byte before this one stands for a bit
abbrev pub invariant-loop-byte : goal.invariant-loop-byte
invariant-loop-byte l = l.all ≡ list_all is_bit (take l.byte-index l.bytes)
