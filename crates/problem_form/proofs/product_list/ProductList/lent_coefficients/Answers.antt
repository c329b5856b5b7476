use Rattle.problem_form.proofs.Lemmas.{nat_tests, ◌-◌, ◌∙◌, ap, sym, arith, map, take, drop, List, ℤ, slice_range, drop-map, take-map, Product, length-zip_with, map-coefficients}
use Rattle.problem_form.proofs.product_list.ProductList.lent_coefficients.Goals as goal

pub lent_numbers-requires-clause-within : goal.lent_numbers-requires-clause-within
lent_numbers-requires-clause-within c = grind (arith, nat_tests, length-zip_with)

pub returns : goal.returns
returns c =
    let fields = c.self.inside in
    let start = c.args.start in
    let end = c.args.end in
    let coefficient : Product → ℤ = λ t. t.coefficient in
    c.lent_numbers.ensures ∙ ap (λ (zs : List ℤ). slice_range zs start end) c.deref.ensures.value
    ∙ ap (λ (zs : List ℤ). slice_range zs start end) (sym (map-coefficients fields.lists _ c.self.invariant))
    ∙ ap (take (end - start)) (drop-map coefficient start _)
    ∙ take-map coefficient (end - start) (drop start _)
    ∙ ap (λ (ts : List Product). map coefficient (slice_range ts start end)) c.self.view_is
