use Rattle.local_penalties.proofs.Common.{◌≡◌, list_all}
use Rattle.local_penalties.proofs.Sizes.{has_size}
use Rattle.local_penalties.proofs.equations.have_size.Given as goal

-- the products that are left have the size where all have
abbrev pub invariant-loop-product : goal.invariant-loop-product
invariant-loop-product l = list_all (has_size l.size) l.product-iterator ≡ list_all (has_size l.size) l.fn.products
