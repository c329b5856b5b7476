use Rattle.std.proofs.Common.{◌≡◌, ◌++◌, ◌∷◌, [], length, ap, ◌∙◌, rules}
use Rattle.base.proofs.FlatParts.{pushed}
use Rattle.base.proofs.lists.Lists.push.Goals as goal

pub invariant_of-self-else-is_err : goal.invariant_of-self-else-is_err
invariant_of-self-else-is_err g c =
    let items = c.self.inside.items.items in
    let ends = c.self.inside.ends.items in
    let more : c.extend_from_slice.new.self.items ≡ items ++ c.args.list.now = search rules in
    let ended : c.push.new.self.items ≡ ends ++ length c.extend_from_slice.new.self.items ∷ [] = search rules in
    (pushed items c.args.list.now ends _ _ c.self.invariant more ended).0

pub returns-clause-pushed : goal.returns-clause-pushed
returns-clause-pushed g c =
    let items = c.self.inside.items.items in
    let ends = c.self.inside.ends.items in
    let more : c.extend_from_slice.new.self.items ≡ items ++ c.args.list.now = search rules in
    let ended : c.push.new.self.items ≡ ends ++ length c.extend_from_slice.new.self.items ∷ [] = search rules in
    (pushed items c.args.list.now ends _ _ c.self.invariant more ended).1
    ∙ ap (λ ls. ls ++ c.args.list.now ∷ []) c.self.view_is
