use Rattle.state_file.proofs.Common.{ℕ, ◌+◌, List, ◌∷◌, sym, ap, ◌∙◌, arith, take_rest, lines_of}
use Rattle.state_file.proofs.StateLines.{first_line, last_line}
use Rattle.state_file.proofs.lines.cut_line.Goals as goal

pub returns-then-end-text : goal.returns-then-end-text
returns-then-end-text c =
    last_line c.args.text.now c.trimmed_line-line.result.now c.line_len-end.result
    c.line_len-end.ensures.first (omega arith) c.trimmed_line-line.ensures

pub returns-else-end-text : goal.returns-else-end-text
returns-else-end-text c =
    let text = c.args.text.now in
    let end = c.line_len-end.result in
    first_line text c.trimmed_line-line.result.now end c.line_len-end.ensures.first (omega arith)
    c.trimmed_line-line.ensures
    ∙ ap (λ (rest : List ℕ). c.trimmed_line-line.result.now ∷ lines_of rest)
    (sym (take_rest text (end + 1)))
