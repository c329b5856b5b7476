use Rattle.whole_text.proofs.Common.{ltb, ap, ◌∙◌, arith, w8, count_trailing_zeros, chunk, length-chunk, bitmask_splat, trailing_mask_l}
use Rattle.whole_text.proofs.lexing.run_len.Goals as goal

pub returns-else-stops-eq0 : goal.returns-else-stops-eq0
returns-else-stops-eq0 c =
    let v = chunk 0 16 c.args.bytes.now in
    let long = length-chunk 0 16 c.args.bytes.now c.requires in
    let stops = bitmask_splat w8 ltb v 16 33 long (omega arith) in
    ap (count_trailing_zeros 64) stops ∙ trailing_mask_l (λ b. ltb b 33) 64 v (omega arith) (omega arith)
