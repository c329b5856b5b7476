use Rattle.quadratization.proofs.Common.{nat_tests, ints, rules, arith, ◌≡◌, ◌<◌, ◌∙◌, ap, sym, subst, ℤ, to_z, of_z, map, length, w128, to_z-of_z, rest_all, rest_more, All-head, All-rest, All-same, Literal, literal_share}
use Rattle.quadratization.proofs.GainedShares.{gain-none, gaining-first, gaining-more}
use Rattle.quadratization.proofs.shares.add_literal_shares.Goals as goal

pub loop-literal-preserved : goal.loop-literal-preserved
loop-literal-preserved c =
    let z : ℤ = to_z w128 (of_z w128 c.args.coefficient) in
    let f = literal_share c.args.negated z in
    let l : Literal = c.in-Some.literal in
    let P : Literal → Type 0 = λ m. m.variable < length c.args.weights.now in
    let left = rest_more _ c.loop-literal.literal-iterator c.next.new.self c.next.result l c.in-Some.is c.next.ensures.steps in
    let share : to_z w128 (of_z w128 c.literal_share-share.result) ≡ (f l).1 =
    to_z-of_z w128 c.literal_share-share.result (search rules) ∙ c.literal_share-share.ensures in
    record {
      gaining = gaining-more c.args.weights.now c.loop-literal.weights c.add_share.new.weights
          (map f c.loop-literal.literal-iterator) (map f c.next.new.self) (map f c.into_iter-literal-iterator.result) (f l)
          (ap (map f) left) (rw share at c.add_share.ensures) c.loop-literal.invariant.gaining;
      within = All-rest P _ _ _ left c.loop-literal.invariant.within;
    }

pub loop-literal-init : goal.loop-literal-init
loop-literal-init c = grind (arith, nat_tests, ints, to_z-of_z)

pub add_share-requires-clause-within : goal.add_share-requires-clause-within
add_share-requires-clause-within c =
    let l : Literal = c.in-Some.literal in
    let P : Literal → Type 0 = λ m. m.variable < length c.args.weights.now in
    let left = rest_more _ c.loop-literal.literal-iterator c.next.new.self c.next.result l c.in-Some.is c.next.ensures.steps in
    subst (λ n. l.variable < n) (sym c.loop-literal.auto.weights)
    (All-head P _ _ (All-same P _ _ (sym left) c.loop-literal.invariant.within))

pub add_share-requires-clause-small : goal.add_share-requires-clause-small
add_share-requires-clause-small c =
    let z : ℤ = to_z w128 (of_z w128 c.args.coefficient) in
    let f = literal_share c.args.negated z in
    let l : Literal = c.in-Some.literal in
    let left = rest_more _ c.loop-literal.literal-iterator c.next.new.self c.next.result l
    c.in-Some.is c.next.ensures.steps in
    let share : to_z w128 (of_z w128 c.literal_share-share.result) ≡ (f l).1 =
    to_z-of_z w128 c.literal_share-share.result (search rules) ∙ c.literal_share-share.ensures in
    gaining-first _ _ _ _ _ _ _ (ap (map f) left) share c.loop-literal.invariant.gaining

pub returns : goal.returns
returns c = grind (arith, nat_tests, ints, to_z-of_z, rest_all, gain-none)
