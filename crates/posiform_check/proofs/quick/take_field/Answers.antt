use Rattle.posiform_check.proofs.Common.{rules, on_ok_weaker, ◌≡◌, [], pos, neg_ℤ, ◌*ℤ◌, arith, to_z, of_z, w128, ints, node_set}
use Rattle.posiform_check.proofs.Sums.{take_back}
use Rattle.posiform_check.proofs.quick.take_field.Goals as goal

pub returns : goal.returns
returns c =
    let f = c.args.field in
    let own : to_z w128 (of_z w128 f) ≡ f = search rules in
    let one = take_back c.args.sums.now c.add_constant.new.self [] (neg_ℤ f)
    (to_z w128 (of_z w128 f)) (omega (arith, ints, own)) c.in_ok-add_constant.ensures in
    let whole : to_z w128 (of_z w128 c.in_ok-less.less) ≡ c.in_ok-less.less = search rules in
    let sum_own : to_z w128 (of_z w128 c.in_ok-sum.field-0) ≡ c.in_ok-sum.field-0 = search rules in
    let two = take_back c.add_constant.new.self c.add_node.new.self (node_set c.args.node)
    (pos 2 *ℤ f) (to_z w128 (of_z w128 c.in_ok-sum.field-0))
    (omega (arith, ints, c.in_ok-less.ensures, c.in_ok-sum.ensures)) in
    on_ok_weaker c.add_node.result (λ more set. omega (arith, ints, one set, two more set))
    (rw c.from.ensures at c.add_node.ensures)
