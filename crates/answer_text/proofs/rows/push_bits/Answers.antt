use Rattle.answer_text.proofs.Common.{◌++◌, ◌∷◌, [], ◌∙◌, false, take, get_or, ap, sym, append_assoc, map-append, take_all, take_more, bits_word, digit_of}
use Rattle.answer_text.proofs.rows.push_bits.Goals as goal

pub loop-bit-preserved : goal.loop-bit-preserved
loop-bit-preserved c =
    let old = c.args.text.now.items in
    let bits = c.args.bits.now in
    let i = c.loop-bit.bit-index in
    c.in_ok-push.ensures.items ∙ (λ j. c.loop-bit.invariant j ++ c.digit_of.ensures j ∷ [])
    ∙ append_assoc old (bits_word (take i bits)) _
    ∙ ap (λ xs. old ++ xs) (sym (map-append digit_of (take i bits) (get_or bits i false ∷ [])))
    ∙ ap (λ xs. old ++ bits_word xs) (sym (take_more bits i false c.loop-bit-test.true))

pub returns : goal.returns
returns c =
    c.loop-bit.invariant ∙ ap (λ bits. c.args.text.now.items ++ bits_word bits)
    (take_all c.loop-bit.bit-index c.args.bits.now c.loop-bit-test.false)
