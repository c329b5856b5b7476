use Rattle.part_lists.proofs.Common.{Plain, ◌≡◌, [], refl, arith, slice_range, err_from_is_err_and, tokens_of_line, line_blank, line_comment, line_tokens}
use Rattle.part_lists.proofs.PartRows.{first_bad, first_good, parts_none}
use Rattle.part_lists.proofs.parts.part_of_line.Goals.{then-at-end-via-then-at-end, then-at-end-via-else-at-end+then-text-at-eq99}
use Rattle.part_lists.proofs.parts.part_of_line.Goals as goal

pub returns-then-at-end : goal.returns-then-at-end
returns-then-at-end g c =
    let text = c.args.text.now in
    let start = c.args.start in
    let end = c.args.end in
    let first = c.blank_len.ensures.first in
    let none : tokens_of_line Plain c.args.line (slice_range text start end) ≡ [] =
    elim c.then-at-end.branch [
      | then-at-end-via-then-at-end w ↦
          line_blank text start end _ c.args.line c.requires.ordered c.requires.within first w.if-at-end.true
      | then-at-end-via-else-at-end+then-text-at-eq99 w ↦
          line_comment text start end _ c.args.line c.requires.ordered c.requires.within first (omega arith)
          w.if-text-at-eq99.true
    ] in
    record { read = parts_none (g.H.Hardware.exists c.args.host.now) (g.H.Hardware.joined c.args.host.now) _ none; kept = tt }

pub returns-in_err-qubit : goal.returns-in_err-qubit
returns-in_err-qubit g c =
    let t = line_tokens _ _ _ _ _ c.args.line c.requires.ordered c.requires.within
    c.blank_len.ensures.first (omega arith) c.if-text-at-eq99.false refl in
    let p = err_from_is_err_and c.from_residual.result c.from_residual.ensures.1 in
    rw (p.1, p.2) (record { read = first_bad (g.H.Hardware.exists c.args.host.now) (g.H.Hardware.joined c.args.host.now) _ _ _ _ _ t.2 c.in_err-qubit.ensures.value; kept = tt })

pub returns-in_err-rest_of_line : goal.returns-in_err-rest_of_line
returns-in_err-rest_of_line g c =
    let t = line_tokens _ _ _ _ _ c.args.line c.requires.ordered c.requires.within
    c.blank_len.ensures.first (omega arith) c.if-text-at-eq99.false c.in_ok-qubit.ensures.len in
    let residual = c.from_residual-in_err-rest_of_line in
    let p = err_from_is_err_and residual.result residual.ensures.1 in
    let read = first_good (g.H.Hardware.exists c.args.host.now) (g.H.Hardware.joined c.args.host.now) _ _ _ _ _ t.2 c.in_ok-qubit.ensures.value in
    rw (p.1, p.2) (record { read = rw (read, ← c.in_err-rest_of_line.ensures.read) refl; kept = tt })

pub returns : goal.returns
returns g c =
    let t = line_tokens _ _ _ _ _ c.args.line c.requires.ordered c.requires.within
    c.blank_len.ensures.first (omega arith) c.if-text-at-eq99.false c.in_ok-qubit.ensures.len in
    let read = first_good (g.H.Hardware.exists c.args.host.now) (g.H.Hardware.joined c.args.host.now) _ _ _ _ _ t.2 c.in_ok-qubit.ensures.value in
    record { read = rw (read, ← c.in_ok-rest_of_line.ensures.read) refl; kept = c.in_ok-rest_of_line.ensures.kept }
