use Rattle.problem_form.proofs.Lemmas.{elements, nat_tests, ◌≡◌, ◌++◌, ◌∷◌, [], List, ap, sym, subst, ◌∙◌, OnOk, arith, of_z, to_z, ℤ, w128, ints, append-nil, Literal, Product, as_before, is_dropped, kept_product-zero, kept_product-dropped, kept_product-kept}
use Rattle.problem_form.proofs.products.keep_product.Goals as goal

pub returns-then-coefficient-eq0-clause-kept : goal.returns-then-coefficient-eq0-clause-kept
returns-then-coefficient-eq0-clause-kept c =
    grind (arith, nat_tests, ints, elements, append-nil, kept_product-zero)

pub returns-then-is_dropped-clause-kept : goal.returns-then-is_dropped-clause-kept
returns-then-is_dropped-clause-kept c =
    let dropped = ap is_dropped (sym c.deref.ensures.value) ∙ sym c.is_dropped.ensures ∙ c.if-is_dropped.true in
    as_before c.args.products.now _ (kept_product-dropped
    (record { literals = c.args.literals.now.items; coefficient = c.args.coefficient }) _ c.make_set.ensures.set dropped)

pub returns-clause-kept : goal.returns-clause-kept
returns-clause-kept c =
    let products = c.args.products.now in
    let written : Product = record { literals = c.args.literals.now.items; coefficient = c.args.coefficient } in
    let dropped = ap is_dropped (sym c.deref.ensures.value) ∙ sym c.is_dropped.ensures ∙ c.if-is_dropped.false in
    let same : to_z w128 (of_z w128 c.args.coefficient) ≡ c.args.coefficient = omega (arith, ints) in
    let one : List Literal → ℤ → List Product = λ ls k. record { literals = ls; coefficient = k } ∷ [] in
    let P : List Product → Type 0 = λ kept. OnOk c.push.result (c.push.new.self ≡ products ++ kept) in
    subst P ((λ i. one (c.deref-2.ensures.value i) (same i))
    ∙ kept_product-kept written c.make_set.new.literals.items c.make_set.ensures.set
    (λ none. c.if-coefficient-eq0.false (ap (of_z w128) none)) dropped)
    c.push.ensures.pushed
