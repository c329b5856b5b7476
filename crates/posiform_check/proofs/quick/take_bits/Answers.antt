use Rattle.posiform_check.proofs.Common.{rules, ◌≡◌, true, false, pos, ◌+ℤ◌, to_z, of_z, w128, on_ok_weaker, is_node}
use Rattle.posiform_check.proofs.Sums.{take_back}
use Rattle.posiform_check.proofs.quick.take_bits.Goals as goal

pub returns-then-first-second : goal.returns-then-first-second
returns-then-first-second c =
    let node : is_node c.args.entry ≡ true = search rules in
    let less : to_z w128 (of_z w128 c.in_ok-less.less) +ℤ c.args.entry.weight ≡ pos 0 =
    search rules in
    rw node (on_ok_weaker c.add_node.result (take_back _ _ _ _ _ less)
    (rw c.from.ensures at c.add_node.ensures))

pub returns-else-first-second : goal.returns-else-first-second
returns-else-first-second c =
    let pair : is_node c.args.entry ≡ false = search rules in
    let less : to_z w128 (of_z w128 c.in_ok-less.less) +ℤ c.args.entry.weight ≡ pos 0 =
    search rules in
    let second = c.from-else-first-second-2.ensures in
    rw pair (on_ok_weaker c.add_pair.result (take_back _ _ _ _ _ less)
    (rw (c.from-else-first-second.ensures, second) at c.add_pair.ensures))
