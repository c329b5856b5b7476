use Rattle.posiform_check.proofs.Common.{◌≡◌, rules, length, sym, ap, ◌∙◌, length-zip_with, line_of}
use Rattle.posiform_check.proofs.lines.LineList.len.Goals as goal

pub returns : goal.returns
returns c =
    let fields = c.self.inside in
    let count : c.len.result ≡ length fields.numbers.items = search rules in
    count ∙ sym (length-zip_with line_of fields.products fields.numbers.items c.self.invariant)
    ∙ ap length c.self.view_is
