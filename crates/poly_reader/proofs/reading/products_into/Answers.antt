use Rattle.poly_reader.proofs.Common.{nat_tests, ◌≡◌, length, sym, ap, ◌∙◌, to_z, of_z, arith, rules, w128, to_z-of_z, err_from_is_err_and, word_of, left, Product, with_variables, with_product, with_product-total, ProblemContent, products_put}
use Rattle.poly_reader.proofs.ProductSets.{set_product, with_product-set}
use Rattle.poly_reader.proofs.Products.{product_goes_on, product_fails, products_end}
use Rattle.poly_reader.proofs.reading.products_into.Goals as goal

pub returns-in_err-coefficient : goal.returns-in_err-coefficient
returns-in_err-coefficient c = grind (arith, nat_tests, product_fails, err_from_is_err_and)

pub loop-next-preserved : goal.loop-next-preserved
loop-next-preserved c =
    let w = word_of c.in-Some.first in
    let p = c.loop-next.problem in
    let names = c.product.new.names in
    let before = rw c.in-Some.is at c.loop-next.invariant.read in
    let small = rw c.in-Some.is at c.loop-next.invariant.small in
    let rest = left c.in_ok-coefficient.after c.product.new.words in
    let z = c.in_ok-coefficient.coefficient in
    let t : Product = record { literals = c.product.new.list.items; coefficient = z } in
    let whole : to_z w128 (of_z w128 z) ≡ z = to_z-of_z w128 z (search rules) in
    let wide : c.widen.new.self ≡ with_variables p (length names) =
    c.widen.ensures ∙ ap (with_variables p) c.len.ensures in
    let state : c.add_listed.new.problem ≡ with_product (with_variables p (length names)) t =
    c.in_ok-add_listed.ensures.added
    ∙ (λ i. with_product (wide i) (record { literals = t.literals; coefficient = whole i })) in
    record {
      read = rw state (ap (λ (q : ProblemContent). products_put (q, names) rest)
          (sym (with_product-set (with_variables p (length names)) t))
          ∙ sym (product_goes_on p c.loop-next.names names w c.loop-next.words rest (set_product t) c.in_ok-coefficient.ensures.read)
          ∙ before);
      small =
          let w = c.in_ok-coefficient.ensures in
          rw state (omega (arith, with_product-total, small, w.small, w.shorter));
      counted = rw state (search rules);
      emptied = c.in_ok-add_listed.ensures.emptied;
    }

pub returns : goal.returns
returns c =
    let before = rw c.in_default.is at c.loop-next.invariant.read in
    sym before ∙ products_end (c.loop-next.problem, c.loop-next.names) _ (search rules)
