use Rattle.posiform_check.proofs.Common.{rules, on_ok_weaker, ◌≡◌, neg_ℤ, arith, to_z, of_z, w128, ints}
use Rattle.posiform_check.proofs.Sums.{kept_opposite}
use Rattle.posiform_check.proofs.set_sums.SetSums.add_two.Goals as goal

pub returns-in_ok-add_node-in-true-true-2 : goal.returns-in_ok-add_node-in-true-true-2
returns-in_ok-add_node-in-true-true-2 c =
    let k = c.args.coefficient in
    let own : to_z w128 (of_z w128 k) ≡ k = search rules in
    let less = kept_opposite k c.in_ok-less.less own (search rules) c.in_ok-less.ensures in
    let back : neg_ℤ (neg_ℤ k) ≡ k = omega (arith, ints) in
    let m0 = rw own at c.in_ok-add_constant-in-true-true.ensures in
    let m1 = rw less at c.in_ok-add_node-in-true-true.ensures in
    let m2 = rw less at c.in_ok-add_node-in-true-true-2.ensures in
    rw (c.in-true-true.is-0, c.in-true-true.is-1, back) (on_ok_weaker c.add_pair.result
    (λ m3 set. omega (arith, ints, m0 set, m1 set, m2 set, m3 set)) (rw own at c.add_pair.ensures))

pub returns-in_ok-add_node-in-true-false : goal.returns-in_ok-add_node-in-true-false
returns-in_ok-add_node-in-true-false c =
    let k = c.args.coefficient in
    let own : to_z w128 (of_z w128 k) ≡ k = search rules in
    let less = kept_opposite k c.in_ok-less.less own (search rules) c.in_ok-less.ensures in
    let m0 = rw own at c.in_ok-add_node-in-true-false.ensures in
    rw (c.in-true-false.is-0, c.in-true-false.is-1) (on_ok_weaker c.add_pair-in-true-false.result
    (λ m1 set. omega (arith, ints, m0 set, m1 set)) (rw less at c.add_pair-in-true-false.ensures))

pub returns-in_ok-add_node-in-false-true : goal.returns-in_ok-add_node-in-false-true
returns-in_ok-add_node-in-false-true c =
    let k = c.args.coefficient in
    let own : to_z w128 (of_z w128 k) ≡ k = search rules in
    let less = kept_opposite k c.in_ok-less.less own (search rules) c.in_ok-less.ensures in
    let m0 = rw own at c.in_ok-add_node-in-false-true.ensures in
    rw (c.in-false-true.is-0, c.in-false-true.is-1) (on_ok_weaker c.add_pair-in-false-true.result
    (λ m1 set. omega (arith, ints, m0 set, m1 set)) (rw less at c.add_pair-in-false-true.ensures))
