use Rattle.posiform_check.proofs.Common.{rules, on_ok_weaker, ◌≡◌, [], pos, neg_ℤ, ◌*ℤ◌, arith, to_z, of_z, w128, ints, node_set, pair_set}
use Rattle.posiform_check.proofs.Sums.{take_back}
use Rattle.posiform_check.proofs.quick.take_coupling.Goals as goal

pub returns : goal.returns
returns c =
    let e = c.args.entry in
    let w = e.weight in
    let own : to_z w128 (of_z w128 w) ≡ w = search rules in
    let less_own : to_z w128 (of_z w128 c.in_ok-less.less) ≡ c.in_ok-less.less = search rules in
    let twice_own : to_z w128 (of_z w128 c.in_ok-twice.twice) ≡ c.in_ok-twice.twice = search rules in
    let down = c.in_ok-twice_less.twice_less in
    let down_own : to_z w128 (of_z w128 down) ≡ down = search rules in
    let four_own : to_z w128 (of_z w128 c.in_ok-sum.field-0) ≡ c.in_ok-sum.field-0 = search rules in
    let a = take_back c.args.sums.now c.add_constant.new.self [] w
    (to_z w128 (of_z w128 c.in_ok-less.less)) (omega (arith, ints, c.in_ok-less.ensures))
    c.in_ok-add_constant.ensures in
    let b = take_back c.add_constant.new.self c.add_node.new.self (node_set e.first)
    (neg_ℤ (pos 2 *ℤ w)) (to_z w128 (of_z w128 c.in_ok-twice.twice))
    (omega (arith, ints, c.in_ok-twice.ensures)) (rw c.from.ensures at c.in_ok-add_node.ensures) in
    let d = take_back c.add_node.new.self c.add_node-2.new.self (node_set e.second)
    (neg_ℤ (pos 2 *ℤ w)) (to_z w128 (of_z w128 c.in_ok-twice.twice))
    (omega (arith, ints, c.in_ok-twice.ensures)) (rw c.from-2.ensures at c.in_ok-add_node-2.ensures) in
    let f = take_back c.add_node-2.new.self c.add_pair.new.self (pair_set e.first e.second)
    (pos 4 *ℤ w) (to_z w128 (of_z w128 c.in_ok-sum.field-0))
    (omega (arith, ints, c.in_ok-less.ensures, c.in_ok-twice_less.ensures, c.in_ok-sum.ensures)) in
    on_ok_weaker c.add_pair.result (λ more set. omega (arith, ints, a set, b set, d set, f more set))
    (rw (c.from-3.ensures, c.from-4.ensures) at c.add_pair.ensures)
