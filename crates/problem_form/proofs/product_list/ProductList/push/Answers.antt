use Rattle.problem_form.proofs.Lemmas.{◌≡◌, ◌++◌, ◌∷◌, [], rules, ◌∙◌, zip_with, product_of, zip_with-push}
use Rattle.problem_form.proofs.product_list.ProductList.push.Goals as goal

pub returns-clause-pushed : goal.returns-clause-pushed
returns-clause-pushed c =
    let fields = c.self.inside in
    let literals = c.args.literals.now in
    let lists : c.push-2.new.self ≡ fields.lists ++ literals ∷ [] = search rules in
    let numbers : c.push.new.self.items ≡ fields.coefficients.items ++ c.args.coefficient ∷ [] = search rules in
    (λ i. zip_with product_of (lists i) (numbers i))
    ∙ zip_with-push product_of fields.lists fields.coefficients.items literals c.args.coefficient c.self.invariant
    ∙ (λ i. c.self.view_is i ++ product_of literals c.args.coefficient ∷ [])
