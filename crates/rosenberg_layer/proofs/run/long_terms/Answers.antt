use Rattle.rosenberg_layer.proofs.Common.{arith, rules, sym, w128, to_z-of_z, rest_more, All-head, All-rest, All-same, Term, IsTermSet, is_long}
use Rattle.rosenberg_layer.proofs.LongRuns.{set_narrow}
use Rattle.rosenberg_layer.proofs.LongParts.{passed_more}
use Rattle.rosenberg_layer.proofs.run.long_terms.Goals as goal

pub add_long-requires-clause-short : goal.add_long-requires-clause-short
add_long-requires-clause-short c =
    let P : Term → Type 0 = λ (u : Term). IsTermSet c.args.table.now.content.width u.0 in
    let left =
    rest_more _ c.loop-literals.literals-iterator c.next.new.self c.next.result
    (c.in-Some.literals, c.in-Some.coefficient) c.in-Some.is c.next.ensures.steps in
    let set = All-head P _ _ (All-same P _ _ (sym left) c.loop-literals.invariant.sets) in
    omega (arith, set.short)

pub add_long-requires-clause-narrow : goal.add_long-requires-clause-narrow
add_long-requires-clause-narrow c =
    let P : Term → Type 0 = λ (u : Term). IsTermSet c.args.table.now.content.width u.0 in
    let left =
    rest_more _ c.loop-literals.literals-iterator c.next.new.self c.next.result
    (c.in-Some.literals, c.in-Some.coefficient) c.in-Some.is c.next.ensures.steps in
    let set = All-head P _ _ (All-same P _ _ (sym left) c.loop-literals.invariant.sets) in
    set_narrow c.args.table.now.content.width c.in-Some.literals.now set c.requires

pub loop-literals-preserved : goal.loop-literals-preserved
loop-literals-preserved c =
    let t : Term = (c.in-Some.literals.now, c.in-Some.coefficient) in
    let left =
    rest_more _ c.loop-literals.literals-iterator c.next.new.self c.next.result
    (c.in-Some.literals, c.in-Some.coefficient) c.in-Some.is c.next.ensures.steps in
    let back = to_z-of_z w128 c.in-Some.coefficient (search rules) in
    let added = rw back at c.in_ok-add_long.ensures in
    record {
      whole = passed_more is_long c.loop-literals.long c.add_long.new.long t _ _ _ left added c.loop-literals.invariant.whole;
      sets =
          All-rest (λ (u : Term). IsTermSet c.args.table.now.content.width u.0) _ _ _ left
          c.loop-literals.invariant.sets;
    }
