use Rattle.std.proofs.Common.{◌≡◌, rules, length, sym, ap, ◌∙◌}
use Rattle.base.proofs.FlatParts.{length-parts}
use Rattle.base.proofs.lists.Lists.len.Goals as goal

pub returns : goal.returns
returns g c =
    let fields = c.self.inside in
    let count : c.len.result ≡ length fields.ends.items = search rules in
    count ∙ sym (length-parts fields.items.items 0 fields.ends.items) ∙ ap length c.self.view_is
