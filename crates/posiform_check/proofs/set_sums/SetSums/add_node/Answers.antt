use Rattle.std.proofs.Common.{rules, ◌≡◌, ◌<◌, length, get_or, pos, ◌+ℤ◌, arith, to_z, of_z}
use Rattle.posiform_check.proofs.Common.{w128, ints, get_or_default}
use Rattle.posiform_check.proofs.Sums.{sums_node}
use Rattle.posiform_check.proofs.set_sums.SetSums.add_node.Goals as goal

pub returns : goal.returns
returns c =
    let parts = c.self.inside in
    let ws = parts.nodes.items in
    let i = c.args.node in
    let within : i < length ws = search rules in
    let value : to_z w128 (of_z w128 c.in_ok-self-inside.field-0)
    ≡ get_or ws i (pos 0) +ℤ c.args.coefficient =
    let now : to_z w128 (of_z w128 c.index.result.now) ≡ c.index.result.now = search rules in
    let added : to_z w128 (of_z w128 c.args.coefficient) ≡ c.args.coefficient = search rules in
    let whole : to_z w128 (of_z w128 c.in_ok-self-inside.field-0) ≡ c.in_ok-self-inside.field-0 =
    search rules in
    let same = get_or_default ws i c.index.result.now (pos 0) within in
    omega (arith, ints, whole, c.in_ok-self-inside.ensures, now, added, c.index.ensures) in
    sums_node _ _ _ _ _ _ _ within value c.self.view_is
