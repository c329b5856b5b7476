use Rattle.local_penalties.proofs.Common.{◌≡◌, ◌++◌, variables_of}
use Rattle.local_penalties.proofs.equations.put_variables.Given as goal

-- the variables so far, and those of the products that are left, are all
abbrev pub invariant-loop-product : goal.invariant-loop-product
invariant-loop-product l = l.buffer.items ++ variables_of l.product-iterator ≡ variables_of l.fn.products
