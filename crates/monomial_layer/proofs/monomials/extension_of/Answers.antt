use Rattle.monomial_layer.proofs.Common.{◌≡◌, ◌++◌, rules, w128, to_z-of_z, rest_more, All-rest, Term, IsTermSet, new_bits}
use Rattle.monomial_layer.proofs.Adding.{bits_left}
use Rattle.monomial_layer.proofs.monomials.extension_of.Goals as goal

pub loop-literals-preserved : goal.loop-literals-preserved
loop-literals-preserved c =
    let x = c.args.x.now in
    let t : Term = (c.in-Some.literals.now, c.in-Some.coefficient) in
    let left = rest_more _ c.loop-literals.literals-iterator c.next.new.self c.next.result (c.in-Some.literals, c.in-Some.coefficient) c.in-Some.is c.next.ensures.steps in
    let back = to_z-of_z w128 c.in-Some.coefficient (search rules) in
    let new : c.push_bits.new.bits.items ≡ c.loop-literals.bits.items ++ new_bits x t = rw back at c.in_ok-push_bits.ensures in
    record {
      whole = bits_left x c.loop-literals.bits.items _ _ t _ _ left new c.loop-literals.invariant.whole;
      sets = All-rest (λ (u : Term). IsTermSet c.args.table.now.content.width u.0) _ _ _ left c.loop-literals.invariant.sets;
    }
