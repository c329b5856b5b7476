use Rattle.rosenberg_layer.proofs.Common.{◌≡◌, ◌++◌, ◌∙◌, ◌∷◌, [], All, ap, sym, subst, unsigned_abs, rules, arith, w128, ℤ, filter, map, to_z-of_z, append-nil, All-head, All-rest, All-same, rest_all, rest_more, Term, terms_total, with_additions, IsTermSet, kept_at_once, TableContent, terms_total-cons, is_long, term_after}
use Rattle.rosenberg_layer.proofs.LongParts.{passed_more, total_more, total-after}
use Rattle.rosenberg_layer.proofs.pairs.after.Goals as goal

pub loop-literals-init : goal.loop-literals-init
loop-literals-init c =
    let f = term_after c.args.pair c.args.node in
    let kept = c.terms-literals-items.ensures.kept in
    let none = c.new-terms.ensures in
    let all = c.into_iter-literals-iterator.ensures.into_iter_gives ∙ c.terms-literals-items.ensures.terms in
    record {
      width = ap (λ (u : TableContent). u.width) none;
      whole = (λ i. (none i).terms ++ filter is_long (map f (all i)));
      sets = subst (All (λ (u : Term). IsTermSet c.args.width (f u).0)) (sym all) (c.requires kept);
      small = omega (arith, kept.small, ap (λ (u : TableContent). terms_total u.terms) none, ap terms_total all);
    }

pub loop-literals-preserved : goal.loop-literals-preserved
loop-literals-preserved c =
    let t : Term = (c.in-Some.literals.now, c.in-Some.coefficient) in
    let old = c.loop-literals.terms in
    let f = term_after c.args.pair c.args.node in
    let left =
    rest_more _ c.loop-literals.literals-iterator c.next.new.self c.next.result
    (c.in-Some.literals, c.in-Some.coefficient) c.in-Some.is c.next.ensures.steps in
    let back = to_z-of_z w128 c.in-Some.coefficient (search rules) in
    let added = rw back at c.in_ok-gather_after.ensures in
    let more = ap (λ (u : TableContent). u.terms) added in
    record {
      width = ap (λ (u : TableContent). u.width) added ∙ c.loop-literals.invariant.width;
      whole =
          passed_more is_long old.terms _ (f t) _ (map f c.next.new.self) _ (ap (map f) left) more
          c.loop-literals.invariant.whole;
      sets = All-rest (λ (u : Term). IsTermSet c.args.width (f u).0) _ _ _ left c.loop-literals.invariant.sets;
      small =
          total_more old.terms _ (filter is_long (f t ∷ [])) t _ _ left more
          (total-after c.args.pair c.args.node t) c.loop-literals.invariant.small;
    }

pub gather_after-requires-clause-set : goal.gather_after-requires-clause-set
gather_after-requires-clause-set c =
    let u : Term = (c.in-Some.literals.now, c.in-Some.coefficient) in
    let f = term_after c.args.pair c.args.node in
    let P : Term → Type 0 = λ (v : Term). IsTermSet c.args.width (f v).0 in
    let left =
    rest_more _ c.loop-literals.literals-iterator c.next.new.self c.next.result
    (c.in-Some.literals, c.in-Some.coefficient) c.in-Some.is c.next.ensures.steps in
    let back = to_z-of_z w128 c.in-Some.coefficient (search rules) in
    subst (λ (z : ℤ). IsTermSet c.loop-literals.terms.width (f (u.0, z)).0) (sym back)
    (subst (λ n. IsTermSet n (f u).0) (sym c.loop-literals.invariant.width)
    (All-head P _ _ (All-same P _ _ (sym left) c.loop-literals.invariant.sets)))

pub gather_after-requires-clause-small : goal.gather_after-requires-clause-small
gather_after-requires-clause-small c =
    let left =
    rest_more _ c.loop-literals.literals-iterator c.next.new.self c.next.result
    (c.in-Some.literals, c.in-Some.coefficient) c.in-Some.is c.next.ensures.steps in
    let back = to_z-of_z w128 c.in-Some.coefficient (search rules) in
    omega (arith, ap terms_total left, terms_total-cons, ap unsigned_abs back)

pub returns-clause-after : goal.returns-clause-after
returns-clause-after c =
    let f = term_after c.args.pair c.args.node in
    let terms = c.loop-literals.terms in
    let none =
    rest_all _ c.loop-literals.literals-iterator c.next.new.self c.next.result c.in-None.is
    c.next.ensures.steps in
    let all : terms.terms ≡ filter is_long (map f c.args.table.now.content.terms) =
    sym (append-nil terms.terms) ∙ sym (ap (λ us. terms.terms ++ filter is_long (map f us)) none)
    ∙ c.loop-literals.invariant.whole in
    c.into_table.ensures ∙ (λ i. kept_at_once
    (record { width = c.loop-literals.invariant.width i; terms = with_additions [] (all i) }))
