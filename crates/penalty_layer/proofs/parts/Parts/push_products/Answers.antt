use Rattle.penalty_layer.proofs.Common.{◌≡◌, ◌++◌, ◌∷◌, [], ◌∙◌, List, ap, sym, map, rules, to_z, of_z, w128, to_z-of_z, append_assoc, Product, Term, product_term}
use Rattle.penalty_layer.proofs.parts.Parts.push_products.Goals as goal

pub loop-product-preserved : goal.loop-product-preserved
loop-product-preserved c =
    let new : Term = (c.deref.result.now, to_z w128 (of_z w128 c.product.inside.coefficient)) in
    let literals = c.deref.ensures.value ∙ c.in_ok-copy_into.ensures in
    let back = to_z-of_z w128 c.product.inside.coefficient (search rules) in
    let own : new ≡ product_term c.in-Some.product =
    (λ i. (literals i, back i)) ∙ ap product_term c.product.view_is in
    let pushed = c.in_ok-push.ensures ∙ (λ i. c.loop-product.self ++ own i ∷ []) in
    (λ i. pushed i ++ map product_term c.next.new.self)
    ∙ append_assoc c.loop-product.self (product_term c.in-Some.product ∷ []) (map product_term c.next.new.self)
    ∙ ap (λ (ts : List Product). c.loop-product.self ++ map product_term ts) (sym c.in-Some.ensures.steps)
    ∙ c.loop-product.invariant
