use Rattle.quadratization.proofs.Common.{rules, ◌≡◌, ◌∙◌, ap, arith, ℤ, to_z, of_z, unsigned_abs, w128, to_z-of_z, node_share, node_shares, shares_total}
use Rattle.quadratization.proofs.GainedShares.{fewer_nodes, gain-node}
use Rattle.quadratization.proofs.shares.add_node_shares.Goals as goal

pub add_share-requires-clause-small : goal.add_share-requires-clause-small
add_share-requires-clause-small c =
    let d = c.args.degree in
    let e = c.args.negated in
    let n = c.args.first_node in
    let k = c.loop-k.k in
    let z : ℤ = to_z w128 (of_z w128 c.args.coefficient) in
    let back : z ≡ c.args.coefficient = to_z-of_z w128 c.args.coefficient (search rules) in
    let share : to_z w128 (of_z w128 c.node_share-share.result) ≡ (node_share d e z n k).1 =
    to_z-of_z w128 c.node_share-share.result (search rules) ∙ c.node_share-share.ensures in
    omega (
      arith,
      ap unsigned_abs share,
      fewer_nodes d e z n k c.nodes_for-k-end.result (omega (arith, c.loop-k-test.true)),
      ap (λ w. shares_total (node_shares d e w n c.nodes_for-k-end.result)) back,
      ap (λ m. shares_total (node_shares d e c.args.coefficient n m)) c.nodes_for-k-end.ensures,
      c.loop-k.invariant.small,
      c.requires.small,
    )

pub loop-k-preserved : goal.loop-k-preserved
loop-k-preserved c =
    gain-node c.args.degree c.args.negated _ c.args.first_node c.loop-k.k _ _ _ _
    (to_z-of_z w128 c.node_share-share.result (search rules) ∙ c.node_share-share.ensures) c.loop-k.invariant c.add_share.ensures
