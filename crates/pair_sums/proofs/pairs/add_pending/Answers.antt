use Rattle.pair_sums.proofs.Common.{nat_tests, ◌≡◌, ◌+ℤ◌, ◌∙◌, sym, arith, to_z, of_z, w128, ints, append_assoc}
use Rattle.pair_sums.proofs.pairs.add_pending.Goals as goal

pub returns-then-pair_number-clause-sums : goal.returns-then-pair_number-clause-sums
returns-then-pair_number-clause-sums c later =
    let w = c.args.pending.now.weight in
    let u = c.args.entry.weight in
    let same = sym c.pair_number.ensures ∙ c.if-pair_number.true ∙ c.pair_number-2.ensures in
    let sum : to_z w128 (of_z w128 (to_z w128 (of_z w128 w) +ℤ to_z w128 (of_z w128 u))) ≡ w +ℤ u =
    omega (arith, ints, c.requires.small) in
    grind (arith, nat_tests, same, sum)

pub returns-clause-sums : goal.returns-clause-sums
returns-clause-sums c later = grind (arith, nat_tests, append_assoc)
