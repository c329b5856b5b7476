use Rattle.problem_form.proofs.Lemmas.{arith, nat_tests, ◌^◌, ◌<◌, All, List, unsigned_abs, sym, subst, Product, zip_with-negated, coefficients-small}
use Rattle.problem_form.proofs.product_list.ProductList.negate.Goals as goal

pub negate_all-requires : goal.negate_all-requires
negate_all-requires c =
    let fields = c.self.inside in
    coefficients-small (2 ^ 127) fields.lists fields.coefficients.items c.self.invariant
    (subst (λ (ts : List Product). All (λ t. unsigned_abs t.coefficient < 2 ^ 127) ts)
    (sym c.self.view_is) c.requires)

pub returns : goal.returns
returns c = grind (arith, nat_tests, zip_with-negated)
