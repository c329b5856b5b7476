use Rattle.local_penalties.proofs.Common.{◌∙◌, ap, Product, each_once}
use Rattle.local_penalties.proofs.Sets.{product-once}
use Rattle.local_penalties.proofs.opening.add_product_rise.Goals as goal

pub change_each-requires-clause-apart : goal.change_each-requires-clause-apart
change_each-requires-clause-apart c =
    ap (λ (t : Product). each_once t.literals) c.product.view_is ∙ product-once _ _ c.requires.normal
