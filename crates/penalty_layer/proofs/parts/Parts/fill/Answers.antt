use Rattle.std.proofs.lemmas.Result.{on_ok_weaker}
use Rattle.penalty_layer.proofs.Common.{arith, ints, ◌≡◌, ◌++◌, ◌∷◌, [], ◌∙◌, ◌-ℤ◌, ap, map, pos, neg_ℤ, to_z, of_z, w128, append_assoc, Constraint, product_term, slack_range-le, slack_terms, slack_weights}
use Rattle.penalty_layer.proofs.parts.Parts.fill.Goals as goal

pub push_slack-requires-clause-range : goal.push_slack-requires-clause-range
push_slack-requires-clause-range c =
    omega (arith, slack_range-le c.args.constraint.now, c.requires.small, c.slack_range_of.ensures)

pub returns : goal.returns
returns c =
    let k = c.args.constraint.now in
    let products : c.push_products.new.self ≡ map product_term k.products =
    c.in_ok-push_products.ensures ∙ (λ i. c.clear.ensures i ++ map product_term (c.again.ensures i))
    ∙ ap (λ (l : Constraint). map product_term l.products) c.constraint.view_is in
    let bound : to_z w128 (of_z w128 (pos 0 -ℤ to_z w128 (of_z w128 c.constraint.inside.bound))) ≡ neg_ℤ k.bound =
    omega (arith, ints, ap (λ (l : Constraint). l.bound) c.constraint.view_is, c.requires.small) in
    let slack = ap (λ n. slack_terms c.args.first (slack_weights n)) c.slack_range_of.ensures in
    let pushed = c.in_ok-push.ensures ∙ (λ i. products i ++ ([], bound i) ∷ []) in
    on_ok_weaker c.push_slack.result (λ e. e ∙ (λ i. pushed i ++ slack i) ∙ append_assoc (map product_term k.products) (([], neg_ℤ k.bound) ∷ []) _)
    c.push_slack.ensures
