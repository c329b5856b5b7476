use Rattle.literal_lists.proofs.Common.{◌≡◌, rules, length, map, sym, ap, ◌∙◌, length-map, parts, length-parts, literal_of}
use Rattle.literal_lists.proofs.narrow_lists.NarrowLists.len.Goals as goal

pub returns : goal.returns
returns c =
    let fields = c.self.inside in
    let count : c.len.result ≡ length fields.ends.items = search rules in
    count ∙ sym (length-parts fields.codes.items 0 fields.ends.items)
    ∙ sym (length-map (parts fields.codes.items 0 fields.ends.items) (map literal_of))
    ∙ ap length c.self.view_is
