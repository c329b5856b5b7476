use Rattle.posiform_check.proofs.Common.{rules, ◌≡◌, to_z, of_z, w128, on_ok_weaker, arith, ints}
use Rattle.posiform_check.proofs.Sums.{kept_opposite}
use Rattle.posiform_check.proofs.set_sums.SetSums.add_one.Goals as goal

pub returns-then-not-literal : goal.returns-then-not-literal
returns-then-not-literal c =
    let own : to_z w128 (of_z w128 c.args.coefficient) ≡ c.args.coefficient = search rules in
    rw c.if-not-literal.true (rw own at c.add_node.ensures)

pub returns : goal.returns
returns c =
    let own : to_z w128 (of_z w128 c.args.coefficient) ≡ c.args.coefficient = search rules in
    let less = kept_opposite _ c.in_ok-opposite.field-0 own (search rules) c.in_ok-opposite.ensures in
    let one = rw own at c.in_ok-add_constant.ensures in
    rw c.if-not-literal.false (on_ok_weaker c.add_node-2.result
    (λ two set. omega (arith, ints, one set, two set)) (rw less at c.add_node-2.ensures))
