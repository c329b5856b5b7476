use Rattle.conflict_clauses.proofs.Common.{constraint_total, ◌≡◌, ℕ, ◌∙◌, ap, sym, subst, arith, All, Some, List, list_all, slice_get, Constraint, Product, IsNormalProduct, ProblemContent, is_single, IsTaken, Found}
use Rattle.conflict_clauses.proofs.Taken.{at_place, found_single, size_at_place, taken}
use Rattle.conflict_clauses.proofs.replacing.take_at.Goals as goal

pub find_conflict-requires-clause-small : goal.find_conflict-requires-clause-small
find_conflict-requires-clause-small c =
    let size = size_at_place constraint_total c.problem.inside.constraints c.args.i c.at-constraint.result
    c.at-constraint.ensures in
    omega (arith, c.problem.invariant.1)

pub take_wanted-requires : goal.take_wanted-requires
take_wanted-requires c =
    let k : Constraint = c.at-constraint.result in
    let products : c.constraint.inside.products ≡ k.products =
    ap (λ (l : Constraint). l.products) c.constraint.view_is in
    ap (λ (ts : List Product). list_all is_single ts) products
    ∙ found_single c.args.spent k _ c.in-Some.ensures

pub returns-clause-taken : goal.returns-clause-taken
returns-clause-taken c l at =
    let k : Constraint = c.at-constraint.result in
    let fields = c.problem.inside in
    let f : Found = c.in-Some.field-0 in
    let r = f.room in
    let lists = c.take_wanted.new.lists in
    let products : c.constraint.inside.products ≡ k.products =
    ap (λ (m : Constraint). m.products) c.constraint.view_is in
    let needed = rw products at c.in_ok-take_wanted.ensures.needed in
    let others = rw products at c.in_ok-take_wanted.ensures.others in
    let Normal : Constraint → Type 0 = λ m. All (IsNormalProduct fields.variables) m.products in
    let normal : Normal k =
    at_place Normal fields.constraints c.args.i k c.at-constraint.ensures c.problem.invariant.0.constraints in
    let all = taken fields.variables c.args.spent k f lists.needed.items lists.others.items
    c.in-Some.ensures normal needed others in
    let found_at : slice_get fields.constraints c.args.i ≡ Some l =
    ap (λ (p : ProblemContent). slice_get p.constraints c.args.i) c.problem.view_is ∙ at in
    let both = sym c.at-constraint.ensures ∙ found_at in
    let same : k ≡ l = cc in
    let variables : fields.variables ≡ c.args.problem.now.variables =
    ap (λ (p : ProblemContent). p.variables) c.problem.view_is in
    let Taken : Constraint → Type 0 =
    λ m. IsTaken fields.variables c.args.spent m lists.needed.items lists.others.items f.pairs in
    let Within : ℕ → Type 0 =
    λ v. IsTaken v c.args.spent l lists.needed.items lists.others.items f.pairs in
    subst Within variables (subst Taken same all)
