use Rattle.state_file.proofs.Common.{◌≡◌, map, take, is_one}
use Rattle.state_file.proofs.lines.write_bits.Given as goal

-- the bits before this one were written
abbrev pub invariant-loop-i : goal.invariant-loop-i
invariant-loop-i l = take l.i l.bits ≡ map is_one (take l.i l.state)
