use Rattle.problem_form.proofs.Common.{◌≡◌, ◌+◌, ◌<◌, ◌^◌, to_z, of_z, unsigned_abs, arith, nat_tests, subst, sym, List, [], ◌∷◌, ◌++◌, All-cons, All-nil, w128, ints, Literal, Product, IsSound, content_within, kept_product, ProblemContent, problem_total}
use Rattle.problem_form.proofs.KeptClauses.{by_result}
use Rattle.problem_form.proofs.KeptPairs.{weighed, with_product-some}
use Rattle.problem_form.proofs.KeptProducts.{with_product-sound}
use Rattle.problem_form.proofs.WeighedParts.{on_ok}
use Rattle.problem_form.proofs.problem.Problem.add_weighed.Goals as goal

pub invariant_of-self : goal.invariant_of-self
invariant_of-self c =
    let p = content_within c.self.inside in
    let a = c.args.literal in
    let k = c.args.coefficient in
    let same : to_z w128 (of_z w128 k) ≡ k = omega (arith, ints) in
    let small = subst (λ (f : ProblemContent). problem_total f + unsigned_abs k < 2 ^ 100) (sym c.self.view_is) c.requires.small in
    let below = subst (λ (f : ProblemContent). a.variable < f.variables) (sym c.self.view_is) c.requires.within in
    let Within : Literal → Type 0 = λ l. l.variable < p.variables in
    let within = All-cons Within a [] below (All-nil Within) in
    let With : List Product → Type 0 = λ ts. IsSound (record p { objective = ts }) in
    let sound : With (p.objective ++ kept_product (weighed (a ∷ []) (to_z w128 (of_z w128 k)))) =
    subst (λ n. With (p.objective ++ kept_product (weighed (a ∷ []) n))) (sym same)
    (subst IsSound (with_product-some p a [] k)
    (with_product-sound p (weighed (a ∷ []) k) c.self.invariant within small)) in
    by_result c.keep_weighed.result With c.keep_weighed.new.products _ p.objective c.keep_weighed.ensures.kept
    c.keep_weighed.ensures.unchanged sound c.self.invariant

pub returns-clause-added : goal.returns-clause-added
returns-clause-added c = grind (arith, nat_tests, ints, on_ok, with_product-some)
