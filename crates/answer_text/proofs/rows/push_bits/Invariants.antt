use Rattle.answer_text.proofs.Common.{◌≡◌, ◌++◌, take, bits_word}
use Rattle.answer_text.proofs.rows.push_bits.Given as goal

-- the digits of the bits so far stand at the end of the text
abbrev pub invariant-loop-bit : goal.invariant-loop-bit
invariant-loop-bit l = l.text.items ≡ l.fn.text.items ++ bits_word (take l.bit-index l.bits)
