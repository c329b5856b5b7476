use Rattle.problem_form.proofs.Common.{arith, nat_tests, ◌≡◌, ◌++◌, ◌∷◌, [], rules, ◌∙◌, flat_map, Row, kept_product, on_err}
use Rattle.problem_form.proofs.HeldConstraints.{rows_kept, row_pushed, rows_pushed-within}
use Rattle.problem_form.proofs.constraint_list.ConstraintList.push_normal.Goals as goal

pub returns-in_err-keep_products-clause-unchanged : goal.returns-in_err-keep_products-clause-unchanged
returns-in_err-keep_products-clause-unchanged c = grind (arith, nat_tests, on_err, rows_kept)

pub returns-in_err-push-clause-unchanged : goal.returns-in_err-push-clause-unchanged
returns-in_err-push-clause-unchanged c = grind (arith, nat_tests, on_err, rows_kept)

pub invariant_of-self-2 : goal.invariant_of-self-2
invariant_of-self-2 c = grind (arith, nat_tests, rows_pushed-within)

pub returns-clause-pushed : goal.returns-clause-pushed
returns-clause-pushed c =
    let fields = c.self.inside in
    let written = c.args.constraint.now in
    let kept = flat_map kept_product written.products in
    let row : Row = record {
      start = c.len-start.result;
      end = c.len.result;
      bound = c.normal_bound.result;
      exact = written.exact;
    } in
    let rows : c.push.new.self.items ≡ fields.rows.items ++ row ∷ [] = search rules in
    row_pushed fields.products kept c.keep_products.new.kept fields.rows.items c.push.new.self.items row
    c.in_ok-keep_products.ensures.kept rows c.len-start.ensures c.len.ensures c.self.invariant
    ∙ (λ i. c.self.view_is i
    ++ record { products = kept; bound = c.normal_bound.ensures i; exact = written.exact } ∷ [])
