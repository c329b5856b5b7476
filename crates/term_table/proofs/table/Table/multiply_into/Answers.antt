use Rattle.term_table.proofs.Common.{pairs_of, terms_total, All-tail, nat_tests, rules, ◌≡◌, ◌+◌, ◌++◌, ◌∙◌, ap, subst, sym, arith, to_z, of_z, ℕ, List, All, w128, to_z-of_z, All-head, on_err, Term, TableContent, with_more, pairs_with, pair_products, IsFactor}
use Rattle.term_table.proofs.Multiplying.{pair_products-append, all_small, row-total, nothing_added, prefix_by_result}
use Rattle.term_table.proofs.Additions.{terms_total-append}
use Rattle.term_table.proofs.Steps.{appended_more}
use Rattle.term_table.proofs.table.Table.multiply_into.Goals as goal

pub gather_row-requires-clause-left : goal.gather_row-requires-clause-left
gather_row-requires-clause-left c =
    let P : Term → Type 0 = λ t. IsFactor c.args.into.now.content.width t.0 in
    subst (λ (n : ℕ). IsFactor n c.in-Some.ls.now) (sym c.loop-ls.invariant.width)
    (All-head P (c.in-Some.ls.now, c.in-Some.a) c.next.new.self
    (subst (λ (ts : List Term). All P ts) c.in-Some.ensures.steps c.loop-ls.invariant.sets))

pub loop-ls-preserved : goal.loop-ls-preserved
loop-ls-preserved c =
    let n = to_z w128 (of_z w128 c.args.factor) in
    let us = c.args.other.now.content.terms in
    let ls = c.in-Some.ls.now in
    let a = c.in-Some.a in
    let t : Term = (ls, a) in
    let rest = c.next.new.self in
    let now = c.loop-ls.products.terms in
    let row = pair_products n (pairs_with t us) in
    let step = c.in-Some.ensures.steps in
    let same : to_z w128 (of_z w128 a) ≡ a = to_z-of_z w128 a (search rules) in
    let one : c.gather_row.new.into ≡ with_more c.loop-ls.products row =
    c.in_ok-gather_row.ensures
    ∙ ap (λ z. with_more c.loop-ls.products (pair_products n (pairs_with (ls, z) us))) same in
    let pushed : c.gather_row.new.into.terms ≡ now ++ row = ap (λ (v : TableContent). v.terms) one in
    let P : Term → Type 0 = λ v. IsFactor c.args.into.now.content.width v.0 in
    record {
      made =
          appended_more now _ row _ _ _ pushed
          (ap (λ (ts : List Term). pair_products n (pairs_of ts us)) step
          ∙ pair_products-append n (pairs_with t us) (pairs_of rest us))
          c.loop-ls.invariant.made;
      width = ap (λ (v : TableContent). v.width) one ∙ c.loop-ls.invariant.width;
      small =
          let size = ap terms_total pushed ∙ terms_total-append now row in
          let before = terms_total c.args.into.now.content.terms + terms_total now in
          let few = all_small n (terms_total us) before _ _ rest t step c.loop-ls.invariant.small in
          omega (arith, size, row-total n a ls us, few);
      sets = All-tail P t rest (subst (λ (ts : List Term). All P ts) step c.loop-ls.invariant.sets);
    }

pub returns-in_err-gather_row-clause-prefix : goal.returns-in_err-gather_row-clause-prefix
returns-in_err-gather_row-clause-prefix c =
    on_err c.from_residual.result (nothing_added c.args.into.now.content c.args.factor _)

pub returns-clause-prefix : goal.returns-clause-prefix
returns-clause-prefix c = grind (arith, nat_tests, prefix_by_result)

pub gather_row-requires-clause-small : goal.gather_row-requires-clause-small
gather_row-requires-clause-small c =
    let a = c.in-Some.a in
    let before = terms_total c.args.into.now.content.terms + terms_total c.loop-ls.products.terms in
    let few =
    all_small (to_z w128 (of_z w128 c.args.factor)) (terms_total c.args.other.now.content.terms) before _ c.loop-ls.ls-iterator c.next.new.self
    (c.in-Some.ls.now, a) c.in-Some.ensures.steps c.loop-ls.invariant.small in
    rw (to_z-of_z w128 a (search rules)) (omega (arith, few))
