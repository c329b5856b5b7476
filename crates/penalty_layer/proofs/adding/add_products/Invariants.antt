use Rattle.penalty_layer.proofs.Common.{map, product_term, Rest}
use Rattle.penalty_layer.proofs.adding.add_products.Given as goal

-- the products so far were added
abbrev pub invariant-loop-product : goal.invariant-loop-product
invariant-loop-product g l =
    Rest g.T.Gather.takes g.T.Gather.holds l.fn.terms l.terms (map product_term l.product-iterator) (map product_term l.products)
