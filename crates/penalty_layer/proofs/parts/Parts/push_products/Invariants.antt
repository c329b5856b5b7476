use Rattle.penalty_layer.proofs.Common.{◌≡◌, ◌++◌, map, product_term}
use Rattle.penalty_layer.proofs.parts.Parts.push_products.Given as goal

-- the parts, with the products that are left, are all
abbrev pub invariant-loop-product : goal.invariant-loop-product
invariant-loop-product l =
    l.self ++ map product_term l.product-iterator ≡ l.fn.self ++ map product_term l.fn.products
