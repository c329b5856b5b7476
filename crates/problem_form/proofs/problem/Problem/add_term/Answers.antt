use Rattle.problem_form.proofs.Lemmas.{◌≡◌, ◌+◌, ◌<◌, ◌^◌, ◌+ℤ◌, to_z, of_z, pos, unsigned_abs, rules, subst, sym, ap, ◌∙◌, ◌++◌, arith, length, eqb, cond, w128, ints, Product, IsSound, content_within, product_constant, kept_product, ProblemContent, problem_total, with_product, is_empty-length, at_view, kept_product-size, with_product-sound}
use Rattle.problem_form.proofs.problem.Problem.add_term.Goals.{In_ok-kept}
use Rattle.problem_form.proofs.problem.Problem.add_term.Goals as goal

-- the problem with the product
state : (c : In_ok-kept)
    → record (content_within c.self.inside) { constant = to_z w128 (of_z w128 (to_z w128 (of_z w128 (content_within c.self.inside).constant) +ℤ to_z w128 (of_z w128 c.coefficient_constant-constant.result))); objective = c.keep_product-kept.new.products }
    ≡ with_product (content_within c.self.inside) (record { literals = c.args.literals.now.items; coefficient = c.args.coefficient })
state c =
    let p = content_within c.self.inside in
    let written : Product = record { literals = c.args.literals.now.items; coefficient = c.args.coefficient } in
    let small = subst (λ (f : ProblemContent). problem_total f + unsigned_abs written.coefficient < 2 ^ 100) (sym c.self.view_is) c.requires.small in
    let same : to_z w128 (of_z w128 c.args.coefficient) ≡ c.args.coefficient = omega (arith, ints) in
    let count : c.len.result ≡ length written.literals = search rules in
    let empty = ap (λ n. eqb n 0) count ∙ is_empty-length written.literals in
    let added = c.coefficient_constant-constant.ensures ∙ (λ i. cond (empty i) (same i) (pos 0)) in
    let constant : to_z w128 (of_z w128 (to_z w128 (of_z w128 p.constant) +ℤ to_z w128 (of_z w128 c.coefficient_constant-constant.result))) ≡ p.constant +ℤ product_constant written = omega (arith, ints, added, kept_product-size written, small) in
    let objective = c.in_ok-kept.ensures.kept ∙ (λ i. p.objective ++ kept_product (record { literals = written.literals; coefficient = same i })) in
    λ i. record p { constant = constant i; objective = objective i }

pub invariant_of-self-2 : goal.invariant_of-self-2
invariant_of-self-2 c =
    let written : Product = record { literals = c.args.literals.now.items; coefficient = c.args.coefficient } in
    let Sound : ProblemContent → Type 0 = IsSound in
    subst Sound (sym (state (goal.at.invariant_of-self-2 c).In_ok-kept))
    (at_view (λ q. IsSound (with_product q written)) (content_within c.self.inside) _ c.self.view_is (λ s. with_product-sound _ written s c.requires.within c.requires.small) c.self.invariant)

pub returns-clause-added : goal.returns-clause-added
returns-clause-added c =
    let written : Product = record { literals = c.args.literals.now.items; coefficient = c.args.coefficient } in
    state (goal.at.returns-clause-added c).In_ok-kept ∙ ap (λ (q : ProblemContent). with_product q written) c.self.view_is
