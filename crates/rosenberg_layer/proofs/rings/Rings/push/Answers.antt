use Rattle.rosenberg_layer.proofs.Common.{◌≡◌, ◌++◌, ◌∷◌, [], length, map, ap, ◌∙◌, rules, pushed, code_of}
use Rattle.rosenberg_layer.proofs.rings.Rings.push.Goals as goal

pub invariant_of-self-else-is_err : goal.invariant_of-self-else-is_err
invariant_of-self-else-is_err c =
    let codes = c.self.inside.codes.items in
    let ends = c.self.inside.ends.items in
    let more : c.append_codes.new.codes.items ≡ _ = c.in_ok-append_codes.ensures.appended in
    let ended : c.push.new.self.items ≡ ends ++ length c.append_codes.new.codes.items ∷ [] = search rules in
    (pushed codes (map code_of c.args.literals.now) ends _ _ c.self.invariant more ended).0

pub returns : goal.returns
returns c =
    let codes = c.self.inside.codes.items in
    let ends = c.self.inside.ends.items in
    let more : c.append_codes.new.codes.items ≡ _ = c.in_ok-append_codes.ensures.appended in
    let ended : c.push.new.self.items ≡ ends ++ length c.append_codes.new.codes.items ∷ [] = search rules in
    (pushed codes (map code_of c.args.literals.now) ends _ _ c.self.invariant more ended).1
    ∙ ap (λ ls. ls ++ map code_of c.args.literals.now ∷ []) c.self.view_is
