use Rattle.conflict_clauses.proofs.Common.{constraint_total, ◌≡◌, ℕ, ◌∙◌, ap, sym, subst, arith, All, Some, List, false, true, list_all, slice_get, Constraint, Product, IsNormalProduct, ProblemContent, is_cover, is_single, IsCoverTaken}
use Rattle.conflict_clauses.proofs.Giving.{cover_parts}
use Rattle.conflict_clauses.proofs.Taken.{at_place, cover_taken, no_cover, same_element, size_at_place}
use Rattle.conflict_clauses.proofs.replacing.take_cover.Goals as goal

pub is_cover-requires : goal.is_cover-requires
is_cover-requires c =
    let size = size_at_place constraint_total c.problem.inside.constraints c.args.i c.at-constraint.result
    c.at-constraint.ensures in
    omega (arith, c.problem.invariant.1)

pub take_wanted-requires : goal.take_wanted-requires
take_wanted-requires c =
    let k : Constraint = c.at-constraint.result in
    let products : c.constraint.inside.products ≡ k.products =
    ap (λ (l : Constraint). l.products) c.constraint.view_is in
    ap (λ (ts : List Product). list_all is_single ts) products
    ∙ (cover_parts k (sym c.is_cover.ensures ∙ c.if-not-is_cover.false)).single

pub returns-then-not-is_cover-clause-taken : goal.returns-then-not-is_cover-clause-taken
returns-then-not-is_cover-clause-taken c l at =
    let fields = c.problem.inside in
    let found_at : slice_get fields.constraints c.args.i ≡ Some l =
    ap (λ (p : ProblemContent). slice_get p.constraints c.args.i) c.problem.view_is ∙ at in
    let same = same_element fields.constraints c.args.i c.at-constraint.result l
    c.at-constraint.ensures found_at in
    let none : is_cover l ≡ false =
    ap is_cover (sym same) ∙ sym c.is_cover.ensures ∙ c.if-not-is_cover.true in
    no_cover c.args.problem.now.variables l c.args.lists.now.needed.items none

pub returns-clause-taken : goal.returns-clause-taken
returns-clause-taken c l at =
    let k : Constraint = c.at-constraint.result in
    let fields = c.problem.inside in
    let lists = c.take_wanted.new.lists in
    let products : c.constraint.inside.products ≡ k.products =
    ap (λ (m : Constraint). m.products) c.constraint.view_is in
    let needed = rw products at c.in_ok-take_wanted.ensures.needed in
    let Normal : Constraint → Type 0 = λ m. All (IsNormalProduct fields.variables) m.products in
    let normal : Normal k =
    at_place Normal fields.constraints c.args.i k c.at-constraint.ensures c.problem.invariant.0.constraints in
    let all = cover_taken fields.variables k lists.needed.items
    (sym c.is_cover.ensures ∙ c.if-not-is_cover.false) normal needed in
    let found_at : slice_get fields.constraints c.args.i ≡ Some l =
    ap (λ (p : ProblemContent). slice_get p.constraints c.args.i) c.problem.view_is ∙ at in
    let same = same_element fields.constraints c.args.i k l c.at-constraint.ensures found_at in
    let variables : fields.variables ≡ c.args.problem.now.variables =
    ap (λ (p : ProblemContent). p.variables) c.problem.view_is in
    let Taken : Constraint → Type 0 =
    λ m. IsCoverTaken fields.variables m lists.needed.items true in
    let Within : ℕ → Type 0 = λ v. IsCoverTaken v l lists.needed.items true in
    subst Within variables (subst Taken same all)
