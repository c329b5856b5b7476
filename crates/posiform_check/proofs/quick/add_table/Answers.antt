use Rattle.posiform_check.proofs.Common.{rules, ◌≡◌, ap, arith, to_z, of_z, w128, ints, rest_more, coefficient_of}
use Rattle.posiform_check.proofs.quick.add_table.Goals as goal

pub loop-set-preserved : goal.loop-set-preserved
loop-set-preserved c =
    let left =
    rest_more _ c.loop-set.set-iterator c.next.new.self c.next.result
    (c.in-Some.set, c.in-Some.coefficient) c.in-Some.is c.next.ensures.steps in
    let back : to_z w128 (of_z w128 c.in-Some.coefficient) ≡ c.in-Some.coefficient = search rules in
    let added = rw back at c.in_ok-add_set.ensures in
    λ set. omega (arith, ints, c.loop-set.invariant set, ap (coefficient_of set) left, added set)
