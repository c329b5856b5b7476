use Rattle.monomial_layer.proofs.Common.{nat_tests, ◌≡◌, ◌+◌, ◌++◌, ◌∙◌, [], ap, arith, refl, sym, rules, w128, sum_by, to_z-of_z, rest_all, rest_more, sum_by-cons, Term, terms_total, with_additions, kept_at_once, TableContent, terms_total-append, new_nodes, new_terms, all_new_terms}
use Rattle.term_table.proofs.Filling as filling
use Rattle.monomial_layer.proofs.Adding.{Holds, Takes, empty_of, nodes_left, room_for_all}
use Rattle.monomial_layer.proofs.Sizes.{all_nodes-le, total-image}
use Rattle.monomial_layer.proofs.replace.quadratic_table.Goals as goal

pub overflow_add-next : goal.overflow_add-next
overflow_add-next c =
    omega (arith, c.width-next.ensures, c.all_new_nodes.ensures.nodes, all_nodes-le, c.requires.size)

pub loop-literals-init : goal.loop-literals-init
loop-literals-init c = grind (arith, nat_tests, empty_of, total-image)

pub add_replaced-requires-clause-narrow : goal.add_replaced-requires-clause-narrow
add_replaced-requires-clause-narrow c =
    let t : Term = (c.in-Some.literals.now, c.in-Some.coefficient) in
    let left = rest_more _ c.loop-literals.literals-iterator c.next.new.self c.next.result (c.in-Some.literals, c.in-Some.coefficient) c.in-Some.is c.next.ensures.steps in
    let back = to_z-of_z w128 c.in-Some.coefficient (search rules) in
    let own = sum_by-cons new_nodes t c.next.new.self in
    rw back (omega (arith, c.loop-literals.invariant.numbered, ap (sum_by new_nodes) left, own, all_nodes-le, c.requires.size))

pub add_replaced-requires-clause-room : goal.add_replaced-requires-clause-room
add_replaced-requires-clause-room c =
    let u = c.args.table.now.content in
    let t : Term = (c.in-Some.literals.now, c.in-Some.coefficient) in
    let next = c.loop-literals.next in
    let left = rest_more _ c.loop-literals.literals-iterator c.next.new.self c.next.result (c.in-Some.literals, c.in-Some.coefficient) c.in-Some.is c.next.ensures.steps in
    rw (to_z-of_z w128 c.in-Some.coefficient (search rules))
    (filling.rest_room Takes Holds (empty_of u) c.loop-literals.quadratic _
    (all_new_terms c.next.new.self (next + new_nodes t)) _ (new_terms t next) (ap (λ ts. all_new_terms ts next) left)
    c.loop-literals.invariant.rest (room_for_all u c.terms-literals-items.ensures.kept c.requires.total))

pub add_replaced-requires-clause-small : goal.add_replaced-requires-clause-small
add_replaced-requires-clause-small c =
    grind (arith, nat_tests, rest_more, to_z-of_z, terms_total-append)

pub loop-literals-preserved : goal.loop-literals-preserved
loop-literals-preserved c =
    let t : Term = (c.in-Some.literals.now, c.in-Some.coefficient) in
    let next = c.loop-literals.next in
    let rest = c.next.new.self in
    let left = rest_more _ c.loop-literals.literals-iterator c.next.new.self c.next.result (c.in-Some.literals, c.in-Some.coefficient) c.in-Some.is c.next.ensures.steps in
    let back = to_z-of_z w128 c.in-Some.coefficient (search rules) in
    let made = rw back at c.in_ok-add_replaced.ensures in
    let found : c.new_nodes-next.result ≡ new_nodes t = c.new_nodes-next.ensures c.in-Some.literals.now refl ∙ ap (λ z. new_nodes (c.in-Some.literals.now, z)) back in
    let number = ap (λ k. next + k) found in
    let begins = ap (λ ts. all_new_terms ts next) left ∙ (λ i. new_terms t next ++ all_new_terms rest (sym number i)) in
    let both = terms_total-append (new_terms t next) (all_new_terms rest (next + c.new_nodes-next.result)) in
    record {
      rest = filling.rest_more Takes Holds _ _ _ _ _ _ (new_terms t next) begins made c.loop-literals.invariant.rest;
      numbered = nodes_left next c.new_nodes-next.result _ t _ _ left found c.loop-literals.invariant.numbered;
      small = omega (arith, c.loop-literals.invariant.small, ap terms_total begins, both);
    }

pub returns-in_err-add_replaced-clause-kept : goal.returns-in_err-add_replaced-clause-kept
returns-in_err-add_replaced-clause-kept c = c.terms-literals-items.ensures.kept

pub returns-clause-made : goal.returns-clause-made
returns-clause-made c =
    let none = rest_all _ c.loop-literals.literals-iterator _ _ c.in-None.is c.next.ensures.steps in
    let filled =
    filling.rest_all Takes Holds _ _ _ _ (ap (λ us. all_new_terms us c.loop-literals.next) none) c.loop-literals.invariant.rest in
    let whole = filled.held (empty_of c.args.table.now.content) refl in
    c.into_table.ensures
    ∙ ap (λ (u : TableContent). kept_at_once (record { width = u.width; terms = with_additions [] u.terms })) whole

pub returns-clause-kept : goal.returns-clause-kept
returns-clause-kept c = c.terms-literals-items.ensures.kept

pub overflow_add-next-in-loop-literals : goal.overflow_add-next-in-loop-literals
overflow_add-next-in-loop-literals c =
    let t : Term = (c.in-Some.literals.now, c.in-Some.coefficient) in
    let left = rest_more _ c.loop-literals.literals-iterator c.next.new.self c.next.result (c.in-Some.literals, c.in-Some.coefficient) c.in-Some.is c.next.ensures.steps in
    let back = to_z-of_z w128 c.in-Some.coefficient (search rules) in
    let found : c.new_nodes-next.result ≡ new_nodes t = c.new_nodes-next.ensures c.in-Some.literals.now refl ∙ ap (λ z. new_nodes (c.in-Some.literals.now, z)) back in
    let most = nodes_left c.loop-literals.next c.new_nodes-next.result _ t _ _ left found c.loop-literals.invariant.numbered in
    omega (arith, most, all_nodes-le c.args.table.now.content.terms, c.requires.size)
