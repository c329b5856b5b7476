use Rattle.chain_map.proofs.Common.{◌≡◌, [], ◌∷◌, ◌++◌, length, refl, arith, rules, slice_range, err_from_is_err_and, tokens_of_line, Plain}
use Rattle.chain_map.proofs.LineNumbers.{line_blank, line_comment, line_tokens}
use Rattle.chain_map.proofs.Rows.{chain_none, chain_fail, chain_unread, chain_one}
use Rattle.chain_map.proofs.reading.push_row.Goals.{then-at-end-via-then-at-end, then-at-end-via-else-at-end+then-text-at-eq99}
use Rattle.chain_map.proofs.reading.push_row.Goals as goal

pub returns-then-at-end : goal.returns-then-at-end
returns-then-at-end c =
    let first = c.blank_len.ensures.first in
    let none : tokens_of_line Plain c.args.line (slice_range c.args.text.now c.args.start c.args.end) ≡ [] =
    elim c.then-at-end.branch [
      | then-at-end-via-then-at-end w ↦
          line_blank _ _ _ _ c.args.line c.requires.ordered c.requires.within first w.if-at-end.true
      | then-at-end-via-else-at-end+then-text-at-eq99 w ↦
          line_comment _ _ _ _ c.args.line c.requires.ordered c.requires.within first (omega arith) w.if-text-at-eq99.true
    ] in
    rw none (chain_none c.args.map.now (length c.args.map.now))

pub returns-in_err-len : goal.returns-in_err-len
returns-in_err-len c =
    let front = c.args.map.now in
    let t = line_tokens _ _ _ _ _ c.args.line c.requires.ordered c.requires.within
    c.blank_len.ensures.first (omega arith) c.if-text-at-eq99.false refl in
    let p = err_from_is_err_and c.from_residual.result c.from_residual.ensures.1 in
    rw (p.1, p.2, t.2) (chain_fail front (length front) _ _ _ (rw c.len.ensures at c.in_err-len.ensures.value))

pub returns-in_err-fill_qubits : goal.returns-in_err-fill_qubits
returns-in_err-fill_qubits c =
    let front = c.args.map.now in
    let t = line_tokens _ _ _ _ _ c.args.line c.requires.ordered c.requires.within
    c.blank_len.ensures.first (omega arith) c.if-text-at-eq99.false c.in_ok-len.ensures.len in
    let said = rw c.len.ensures at c.in_ok-len.ensures.value in
    let residual = c.from_residual-in_err-fill_qubits in
    let p = err_from_is_err_and residual.result residual.ensures.1 in
    rw (p.1, p.2, t.2) (chain_unread front (length front) _ _ _ said c.in_err-fill_qubits.ensures)

pub returns : goal.returns
returns c =
    let front = c.args.map.now in
    let qubits = c.fill_qubits.new.qubits.items in
    let t = line_tokens _ _ _ _ _ c.args.line c.requires.ordered c.requires.within
    c.blank_len.ensures.first (omega arith) c.if-text-at-eq99.false c.in_ok-len.ensures.len in
    let said = rw c.len.ensures at c.in_ok-len.ensures.value in
    let pushed : c.push.new.self ≡ front ++ qubits ∷ [] = search rules in
    rw (t.2, pushed) (chain_one front (length front) _ _ qubits said c.in_ok-fill_qubits.ensures)
