use Rattle.wbo_reader.proofs.Common.{◌≡◌, ◌++◌, ◌∷◌, [], rules, ◌∙◌, normal_constraint, zip_with, zip_with-push}
use Rattle.wbo_reader.specs.SoftLists.{soft_of}
use Rattle.wbo_reader.proofs.soft.SoftList.push.Goals as goal

pub returns-clause-pushed : goal.returns-clause-pushed
returns-clause-pushed c =
    let fields = c.self.inside in
    let k = normal_constraint c.args.constraint.now in
    let constraints : c.push_normal.new.self ≡ fields.constraints ++ k ∷ [] = search rules in
    let weights : c.push.new.self.items
    ≡ fields.weights.items ++ c.args.weight ∷ [] = search rules in
    (λ i. zip_with soft_of (constraints i) (weights i))
    ∙ zip_with-push soft_of fields.constraints fields.weights.items k c.args.weight c.self.invariant
    ∙ (λ i. c.self.view_is i ++ soft_of k c.args.weight ∷ [])
