use Rattle.monomial_layer.proofs.Common.{◌≡◌, ◌∙◌, ap, arith, refl, rules, w128, to_z-of_z, rest_more, Term, new_nodes}
use Rattle.monomial_layer.proofs.Sizes.{size-all_new_terms}
use Rattle.monomial_layer.proofs.Adding.{nodes_left}
use Rattle.monomial_layer.proofs.nodes.all_new_nodes.Goals as goal

pub overflow_add-nodes : goal.overflow_add-nodes
overflow_add-nodes c =
    let t : Term = (c.in-Some.literals.now, c.in-Some.coefficient) in
    let left = rest_more _ c.loop-literals.literals-iterator c.next.new.self c.next.result (c.in-Some.literals, c.in-Some.coefficient) c.in-Some.is c.next.ensures.steps in
    let back = to_z-of_z w128 c.in-Some.coefficient (search rules) in
    let new : c.new_nodes-nodes.result ≡ new_nodes t = c.new_nodes-nodes.ensures c.in-Some.literals.now refl ∙ ap (λ z. new_nodes (c.in-Some.literals.now, z)) back in
    let more = nodes_left c.loop-literals.nodes c.new_nodes-nodes.result _ t _ _ left new
    c.loop-literals.invariant.whole in
    omega (arith, size-all_new_terms c.args.table.now.content.terms 0, c.requires)

pub loop-literals-preserved : goal.loop-literals-preserved
loop-literals-preserved c =
    let t : Term = (c.in-Some.literals.now, c.in-Some.coefficient) in
    let left = rest_more _ c.loop-literals.literals-iterator c.next.new.self c.next.result (c.in-Some.literals, c.in-Some.coefficient) c.in-Some.is c.next.ensures.steps in
    let back = to_z-of_z w128 c.in-Some.coefficient (search rules) in
    let new : c.new_nodes-nodes.result ≡ new_nodes t = c.new_nodes-nodes.ensures c.in-Some.literals.now refl ∙ ap (λ z. new_nodes (c.in-Some.literals.now, z)) back in
    record {
      whole = nodes_left c.loop-literals.nodes c.new_nodes-nodes.result _ t _ _ left new c.loop-literals.invariant.whole;
    }
