use Rattle.chain_map.proofs.Common.{◌≡◌, ◌+◌, false, [], map, get_or, refl, sym, ap, ◌∙◌, arith, slice_range, err_from_is_err_and, is_blank, word, words, words_none, slice_none, each, natural_at, after_front}
use Rattle.chain_map.proofs.LineNumbers.{blank_passed, first_word}
use Rattle.chain_map.proofs.Rows.{qubits_more, qubits_fail, qubits_end, front_none}
use Rattle.chain_map.proofs.reading.fill_qubits.Goals as goal

pub loop-at-init : goal.loop-at-init
loop-at-init c =
    let said = each (natural_at 0) (map (word c.args.line) (words (slice_range c.args.text.now c.args.from c.args.end))) in
    record {
      high = c.requires.ordered;
      read = ap (λ front. after_front front said) c.clear.ensures.items ∙ front_none said;
    }

pub loop-at-preserved-then-is_blank : goal.loop-at-preserved-then-is_blank
loop-at-preserved-then-is_blank c =
    let front = c.loop-at.qubits.items in
    let passed = blank_passed c.args.text.now c.loop-at.at c.args.end c.loop-at-test.true c.requires.within
    (sym c.is_blank.ensures ∙ c.if-is_blank.true) in
    record {
      high = omega (arith, c.loop-at-test.true);
      read = ap (λ ws. after_front front (each (natural_at 0) (map (word c.args.line) ws))) (sym passed) ∙ c.loop-at.invariant.read;
    }

pub returns-in_err-qubit : goal.returns-in_err-qubit
returns-in_err-qubit c =
    let ink : is_blank (get_or c.args.text.now c.loop-at.at 0) ≡ false = sym c.is_blank.ensures ∙ c.if-is_blank.false in
    let w = first_word _ _ _ _ c.args.line c.loop-at-test.true c.requires.within ink refl in
    let p = err_from_is_err_and c.from_residual.result c.from_residual.ensures.1 in
    let fail = qubits_fail c.loop-at.qubits.items _ _ _ c.in_err-qubit.ensures.value in
    rw (p.1, p.2, ← c.loop-at.invariant.read, w.2) fail

pub loop-at-smaller : goal.loop-at-smaller
loop-at-smaller c =
    let ink = sym c.is_blank.ensures ∙ c.if-is_blank.false in
    let w = first_word _ _ _ _ c.args.line c.loop-at-test.true c.requires.within ink
    c.in_ok-qubit.ensures.len in
    omega (arith, w.0, c.loop-at-test.true)

pub loop-at-preserved : goal.loop-at-preserved
loop-at-preserved c =
    let text = c.args.text.now in
    let at = c.loop-at.at in
    let ink : is_blank (get_or text at 0) ≡ false = sym c.is_blank.ensures ∙ c.if-is_blank.false in
    let w = first_word text at c.args.end c.in_ok-qubit.len c.args.line c.loop-at-test.true
    c.requires.within ink c.in_ok-qubit.ensures.len in
    let rest = map (word c.args.line) (words (slice_range text (at + c.in_ok-qubit.len) c.args.end)) in
    let more = qubits_more c.loop-at.qubits.items _ rest _ c.in_ok-qubit.ensures.value in
    record {
      high = w.1;
      read = cc (c.in_ok-push.ensures.items, more, w.2, c.loop-at.invariant.read);
    }

pub returns : goal.returns
returns c =
    let text = c.args.text.now in
    let end = c.args.end in
    let here : c.loop-at.at ≡ end = omega (arith, c.loop-at.invariant.high, c.loop-at-test.false) in
    let none : words (slice_range text c.loop-at.at end) ≡ [] = rw here (ap words (slice_none text end) ∙ words_none) in
    rw (← c.loop-at.invariant.read, none) (qubits_end c.loop-at.qubits.items)
