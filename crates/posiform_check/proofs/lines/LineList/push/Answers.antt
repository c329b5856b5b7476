use Rattle.posiform_check.proofs.Common.{◌≡◌, ◌++◌, ◌∷◌, [], rules, ◌∙◌, Product, zip_with, zip_with-push, line_of}
use Rattle.posiform_check.proofs.lines.LineList.push.Goals as goal

pub returns-clause-pushed : goal.returns-clause-pushed
returns-clause-pushed c =
    let fields = c.self.inside in
    let t : Product = record { literals = c.args.literals.now; coefficient = c.args.coefficient } in
    let products : c.push-2.new.self ≡ fields.products ++ t ∷ [] = search rules in
    let numbers : c.push.new.self.items ≡ fields.numbers.items ++ c.args.line ∷ [] = search rules in
    (λ i. zip_with line_of (products i) (numbers i))
    ∙ zip_with-push line_of fields.products fields.numbers.items t c.args.line c.self.invariant
    ∙ (λ i. c.self.view_is i ++ line_of t c.args.line ∷ [])
