use Rattle.problem_form.proofs.Common.{◌≡◌, ◌+◌, ◌<◌, ◌^◌, ◌+ℤ◌, to_z, of_z, unsigned_abs, arith, nat_tests, subst, sym, ◌∙◌, [], All-nil, w128, ints, IsSound, content_within, ProblemContent, problem_total}
use Rattle.problem_form.proofs.KeptPairs.{weighed, with_product-none}
use Rattle.problem_form.proofs.KeptProducts.{with_product-sound}
use Rattle.problem_form.proofs.problem.Problem.add_number.Goals as goal

pub invariant_of-self : goal.invariant_of-self
invariant_of-self c =
    let p = content_within c.self.inside in
    let k = c.args.coefficient in
    let Fits : ProblemContent → Type 0 = λ f. problem_total f + unsigned_abs k < 2 ^ 100 in
    let small : Fits p = subst Fits (sym c.self.view_is) c.requires in
    let constant : to_z w128 (of_z w128 (to_z w128 (of_z w128 p.constant) +ℤ to_z w128 (of_z w128 k))) ≡ p.constant +ℤ k =
    omega (arith, ints, small) in
    subst IsSound (with_product-none p k ∙ (λ i. record p { constant = sym constant i }))
    (with_product-sound p (weighed [] k) c.self.invariant (All-nil _) small)

pub returns : goal.returns
returns c = grind (arith, nat_tests, ints, with_product-none)
