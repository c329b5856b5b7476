use Rattle.penalty_layer.proofs.Common.{◌≡◌, ◌++◌, ◌∷◌, [], rules, ◌∙◌, zip_with, zip_with-push, term_of}
use Rattle.penalty_layer.proofs.parts.Parts.push.Goals as goal

pub returns : goal.returns
returns c =
    let fields = c.self.inside in
    let literals = c.args.literals.now in
    let lists : c.push-2.new.self ≡ fields.sets ++ literals ∷ [] = search rules in
    let numbers : c.push.new.self.items ≡ fields.coefficients.items ++ c.args.coefficient ∷ [] = search rules in
    (λ i. zip_with term_of (lists i) (numbers i))
    ∙ zip_with-push term_of fields.sets fields.coefficients.items literals c.args.coefficient c.self.invariant
    ∙ (λ i. c.self.view_is i ++ term_of literals c.args.coefficient ∷ [])
