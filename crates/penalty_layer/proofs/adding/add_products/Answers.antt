use Rattle.penalty_layer.proofs.Common.{◌∷◌, [], ap, map, Product, product_term, rest_more, rest_room}
use Rattle.penalty_layer.proofs.adding.add_products.Goals as goal

pub add_product-requires : goal.add_product-requires
add_product-requires g c =
    let t : Product = c.in-Some.product in
    rest_room _ _ _ _ _ _ _ (product_term t ∷ []) (ap (map product_term) c.in-Some.ensures.steps)
    c.loop-product.invariant c.requires

pub loop-product-preserved : goal.loop-product-preserved
loop-product-preserved g c =
    rest_more _ _ _ _ _ _ _ _ _ (ap (map product_term) c.in-Some.ensures.steps) c.in_ok-add_product.ensures
    c.loop-product.invariant
