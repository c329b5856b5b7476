use Rattle.quadratization.proofs.Common.{rules, ◌*ℤ◌, arith, w128, to_z-of_z}
use Rattle.quadratization.proofs.GainedShares.{product_bound}
use Rattle.quadratization.proofs.shares.product.Goals as goal

pub returns-clause-value : goal.returns-clause-value
returns-clause-value c =
    let bound = product_bound c.args.coefficient c.args.count c.requires.coefficient c.requires.count in
    rw (to_z-of_z w128 c.args.coefficient (search rules), to_z-of_z w128 c.args.count (search rules))
    (to_z-of_z w128 (c.args.coefficient *ℤ c.args.count) (search (rules, bound)))

pub returns-clause-bound : goal.returns-clause-bound
returns-clause-bound c =
    let bound = product_bound c.args.coefficient c.args.count c.requires.coefficient c.requires.count in
    let whole = to_z-of_z w128 (c.args.coefficient *ℤ c.args.count) (search (rules, bound)) in
    rw (to_z-of_z w128 c.args.coefficient (search rules), to_z-of_z w128 c.args.count (search rules), whole) (omega (arith, bound))
