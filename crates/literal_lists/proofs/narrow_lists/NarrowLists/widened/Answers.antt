use Rattle.literal_lists.proofs.Common.{◌≡◌, map, ◌∙◌, ap, parts, parts-map, literal_of}
use Rattle.literal_lists.proofs.narrow_lists.NarrowLists.widened.Goals as goal

pub returns : goal.returns
returns c =
    let fields = c.self.inside in
    let literals : c.in_ok-literals.literals.items ≡ map literal_of fields.codes.items =
    c.in_ok-literals.ensures ∙ ap (map literal_of) c.deref.ensures.value in
    let ends : c.in_ok-ends.ends.items ≡ fields.ends.items =
    c.in_ok-ends.ensures ∙ c.deref-2.ensures.value in
    c.new.ensures ∙ (λ i. parts (literals i) 0 (ends i))
    ∙ parts-map literal_of fields.codes.items 0 fields.ends.items ∙ c.self.view_is
