use Rattle.posiform_check.proofs.Common.{rules, ◌≡◌, ◌+ℤ◌, arith, is_eq, to_z, of_z, w128, ints, set_cmp, if_so-plus, pair_set}
use Rattle.posiform_check.proofs.set_sums.after.Goals as goal

pub returns-in_ok-sum : goal.returns-in_ok-sum
returns-in_ok-sum c =
    let w = c.args.next.coefficient in
    let value : to_z w128 (of_z w128 c.in_ok-sum.sum) ≡ c.args.sum.sum +ℤ w = search rules in
    rw (c.if-first-sum.true, c.if-second-sum.true, value) λ set.
    let test = is_eq (set_cmp set (pair_set c.args.sum.first c.args.sum.second)) in
    omega (arith, ints, if_so-plus test c.args.sum.sum w)
