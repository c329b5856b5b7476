use Rattle.conflict_clauses.proofs.Common.{rules, ◌≡◌, ◌+◌, ◌∷◌, ◌∙◌, ap, sym, min, arith, unsigned_abs, sum_by-cons, Product, products_total, size}
use Rattle.conflict_clauses.proofs.Apart.{apart_beside, beside-none, beside-step}
use Rattle.conflict_clauses.proofs.conflicts.all_apart.Goals as goal

pub loop-product-init : goal.loop-product-init
loop-product-init c =
    let same : c.into_iter-product-iterator.result ≡ c.args.products = search rules in
    rw same (record {
      rest = beside-none c.args.room c.args.products;
      few = omega arith;
      small = c.requires.small;
    })

pub loop-product-preserved : goal.loop-product-preserved
loop-product-preserved c =
    let t : Product = c.in-Some.product in
    let rest = c.next.new.self in
    let h = c.loop-product.invariant in
    let room = c.args.room in
    let least = c.loop-product.least in
    let left : c.loop-product.product-iterator ≡ t ∷ rest = search rules in
    let value : c.unsigned_abs-size.result ≡ size t = search rules in
    let minimum : c.min-least.result ≡ min least (size t) =
    c.min-least.ensures ∙ ap (min least) value in
    let total : products_total c.loop-product.product-iterator ≡ size t + products_total rest =
    ap products_total left ∙ sum_by-cons (λ (u : Product). unsigned_abs u.coefficient) t rest in
    record {
      rest = h.rest ∙ ap (apart_beside room least) left
          ∙ beside-step room least t rest (omega (arith, value, c.if-least-size.false))
          ∙ ap (λ n. apart_beside room n rest) (sym minimum);
      few = omega (arith, minimum, h.few);
      small = omega (arith, total, h.small);
    }
