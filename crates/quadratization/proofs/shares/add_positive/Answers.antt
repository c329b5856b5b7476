use Rattle.quadratization.proofs.Common.{rules, ◌≡◌, ◌+◌, ◌++◌, ℕ, map, length, subst, ℤ, to_z, of_z, w128, to_z-of_z, nodes_for, Gain, gain-both, literal_share, node_shares, shares_total}
use Rattle.quadratization.proofs.shares.add_positive.Goals as goal

pub returns : goal.returns
returns c =
    let ls = c.args.literals in
    let e = c.args.negated in
    let n = c.args.node in
    let z : ℤ = to_z w128 (of_z w128 c.args.coefficient) in
    let back : z ≡ c.args.coefficient = to_z-of_z w128 c.args.coefficient (search rules) in
    let G : ℤ → ℕ → Type 0 =
    λ w d. Gain (map (literal_share e w) ls ++ node_shares d e w n (nodes_for d))
    (shares_total (map (literal_share e w) ls) + shares_total (node_shares d e w n (nodes_for d)))
    c.args.weights.now c.add_node_shares.new.weights in
    let d = c.len-degree.result in
    let both : G z d =
    gain-both _ _ _ _ _ _ _ c.add_literal_shares.ensures c.add_node_shares.ensures in
    subst (λ w. G w (length ls)) back (subst (λ k. G z k) c.len-degree.ensures both)
