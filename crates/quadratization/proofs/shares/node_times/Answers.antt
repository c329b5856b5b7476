use Rattle.quadratization.proofs.Common.{rules, ◌≡◌, ◌+◌, ◌*◌, ◌∙◌, ap, arith, pos, ◌-ℤ◌, ◌*ℤ◌, to_z, of_z, w128, ints, to_z-of_z, factor}
use Rattle.quadratization.proofs.GainedShares.{count_bound}
use Rattle.quadratization.proofs.shares.node_times.Goals as goal

-- the product in 128 bits
product_is : (c : goal.After-from) → to_z w128 (of_z w128 c.from.result)
    *ℤ to_z w128 (of_z w128 (to_z w128 (2 * c.args.k + 2) -ℤ to_z w128 c.args.negated))
    ≡ pos (factor c.args.degree c.args.k) *ℤ (pos (2 * c.args.k + 2) -ℤ pos c.args.negated)
product_is c =
    let times = to_z-of_z w128 c.from.result (search rules) ∙ c.from.ensures ∙ ap pos c.factor.ensures in
    let count : to_z w128 (of_z w128 (to_z w128 (2 * c.args.k + 2) -ℤ to_z w128 c.args.negated))
    ≡ pos (2 * c.args.k + 2) -ℤ pos c.args.negated =
    omega (arith, ints, c.requires.degree, c.requires.negated, c.requires.place) in
    λ i. times i *ℤ count i

pub overflow_mul-result-2 : goal.overflow_mul-result-2
overflow_mul-result-2 c =
    omega (arith, ints, product_is c, count_bound c.args.degree c.args.negated c.args.k c.requires.degree c.requires.negated c.requires.place)

pub overflow_sub-result-2 : goal.overflow_sub-result-2
overflow_sub-result-2 c =
    omega (arith, ints, product_is c, count_bound c.args.degree c.args.negated c.args.k c.requires.degree c.requires.negated c.requires.place)

pub returns : goal.returns
returns c = record {
  value = omega (arith, ints, product_is c, count_bound c.args.degree c.args.negated c.args.k c.requires.degree c.requires.negated c.requires.place);
}
