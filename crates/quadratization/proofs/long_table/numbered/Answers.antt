use Rattle.quadratization.proofs.Common.{ints, nat_tests, ◌≡◌, ◌+◌, ◌∙◌, ap, List, map, take_all, first_nodes, node_count, terms_of, arith, rules, w128, to_z-of_z, Product, new_nodes, product_term}
use Rattle.quadratization.proofs.SortedAdditions.{numbers_more, count_more, count_within}
use Rattle.quadratization.proofs.long_table.numbered.Goals as goal

-- how many new nodes the product has
own : (c : goal.After-new_nodes) → c.new_nodes.result ≡ new_nodes (product_term c.at-product.result)
own c =
    let p = c.at-product.result in
    grind (arith, nat_tests, ints, Product, to_z-of_z, w128, new_nodes)

pub overflow_cast-next-in-loop-i : goal.overflow_cast-next-in-loop-i
overflow_cast-next-in-loop-i c =
    let more = count_more c.args.width c.loop-i.i c.args.products.now c.at-product.result c.at-product.ensures in
    search (rules, own c, more, count_within c.args.width (c.loop-i.i + 1) c.args.products.now, c.requires)

pub overflow_add-next : goal.overflow_add-next
overflow_add-next c =
    let more = count_more c.args.width c.loop-i.i c.args.products.now c.at-product.result c.at-product.ensures in
    search (rules, own c, more, count_within c.args.width (c.loop-i.i + 1) c.args.products.now, c.requires, c.loop-i.invariant.next)

pub loop-i-preserved : goal.loop-i-preserved
loop-i-preserved c =
    let more = count_more c.args.width c.loop-i.i c.args.products.now c.at-product.result c.at-product.ensures in
    record {
      firsts =
          numbers_more c.args.width c.loop-i.i c.args.products.now c.at-product.result c.loop-i.first_nodes.items c.push.new.self.items c.loop-i.next
          c.at-product.ensures c.loop-i.invariant.firsts c.loop-i.invariant.next c.in_ok-push.ensures.items;
      next = omega (arith, own c, more, c.loop-i.invariant.next);
    }

pub returns-clause-firsts : goal.returns-clause-firsts
returns-clause-firsts c =
    c.loop-i.invariant.firsts ∙ ap (λ (ps : List Product). first_nodes c.args.width (map product_term ps))
    (take_all c.loop-i.i c.args.products.now (omega (arith, c.loop-i-test.false, c.len-i-end.ensures)))

pub returns-clause-next : goal.returns-clause-next
returns-clause-next c =
    c.loop-i.invariant.next ∙ ap (λ (ps : List Product). node_count (terms_of c.args.width ps))
    (take_all c.loop-i.i c.args.products.now (omega (arith, c.loop-i-test.false, c.len-i-end.ensures)))
