use Rattle.rosenberg_layer.proofs.Common.{◌≡◌, rules, length, sym, ap, ◌∙◌, length-parts}
use Rattle.rosenberg_layer.proofs.rings.Rings.len.Goals as goal

pub returns : goal.returns
returns c =
    let fields = c.self.inside in
    let count : c.len.result ≡ length fields.ends.items = search rules in
    count ∙ sym (length-parts fields.codes.items 0 fields.ends.items) ∙ ap length c.self.view_is
