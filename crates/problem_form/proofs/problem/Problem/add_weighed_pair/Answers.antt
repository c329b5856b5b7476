use Rattle.problem_form.proofs.Common.{◌≡◌, ◌+◌, ◌<◌, ◌^◌, to_z, of_z, unsigned_abs, arith, nat_tests, subst, sym, List, [], ◌∷◌, ◌++◌, All-cons, All-nil, w128, ints, Literal, Product, IsSound, content_within, kept_product, ProblemContent, problem_total}
use Rattle.problem_form.proofs.KeptClauses.{by_result}
use Rattle.problem_form.proofs.KeptPairs.{weighed, with_product-some}
use Rattle.problem_form.proofs.KeptProducts.{with_product-sound}
use Rattle.problem_form.proofs.WeighedParts.{on_ok}
use Rattle.problem_form.proofs.problem.Problem.add_weighed_pair.Goals as goal

pub invariant_of-self : goal.invariant_of-self
invariant_of-self c =
    let p = content_within c.self.inside in
    let a = c.args.first in
    let b = c.args.second in
    let k = c.args.coefficient in
    let same : to_z w128 (of_z w128 k) ≡ k = omega (arith, ints) in
    let small = subst (λ (f : ProblemContent). problem_total f + unsigned_abs k < 2 ^ 100) (sym c.self.view_is) c.requires.small in
    let Below : Literal → ProblemContent → Type 0 = λ l f. l.variable < f.variables in
    let first = subst (Below a) (sym c.self.view_is) c.requires.first in
    let second = subst (Below b) (sym c.self.view_is) c.requires.second in
    let Within : Literal → Type 0 = λ l. l.variable < p.variables in
    let within = All-cons Within a (b ∷ []) first (All-cons Within b [] second (All-nil Within)) in
    let With : List Product → Type 0 = λ ts. IsSound (record p { objective = ts }) in
    let sound : With (p.objective ++ kept_product (weighed (a ∷ b ∷ []) (to_z w128 (of_z w128 k)))) =
    subst (λ n. With (p.objective ++ kept_product (weighed (a ∷ b ∷ []) n))) (sym same)
    (subst IsSound (with_product-some p a (b ∷ []) k)
    (with_product-sound p (weighed (a ∷ b ∷ []) k) c.self.invariant within small)) in
    by_result c.keep_weighed_pair.result With c.keep_weighed_pair.new.products _ p.objective
    c.keep_weighed_pair.ensures.kept c.keep_weighed_pair.ensures.unchanged sound c.self.invariant

pub returns-clause-added : goal.returns-clause-added
returns-clause-added c = grind (arith, nat_tests, ints, on_ok, with_product-some)
