use Rattle.local_penalties.proofs.Common.{◌≡◌, ◌*◌, ◌∙◌, sym, ap, subst, arith, [], length, All, ProblemContent, Literal, Constraint, IsNormalProduct, IsNormalClause, price, whole_penalty, number_of, false, without_own}
use Rattle.problem_form.proofs.Common.{content_within, length-replicate}
use Rattle.local_penalties.specs.Kept.{ArePrices, IsWithinLimits}
use Rattle.local_penalties.proofs.Bounds.{Facts, facts}
use Rattle.local_penalties.proofs.RoundsLeft.{half, number-zero}
use Rattle.local_penalties.proofs.finding.add_first.Goals as goal

pub add_product_rises-requires-clause-room : goal.add_product_rises-requires-clause-room
add_product_rises-requires-clause-room c = λ l.
    let q : ProblemContent = content_within c.problem.inside in
    let f : Facts q = facts q c.problem.invariant (subst IsWithinLimits (sym c.problem.view_is) c.requires.limits) in
    rw c.iter.ensures (omega (arith, f.rises l, number-zero _ _ l c.requires.numbers))

pub add_clauses-requires-clause-normal : goal.add_clauses-requires-clause-normal
add_clauses-requires-clause-normal c =
    let q : ProblemContent = content_within c.problem.inside in
    let variables = ap (λ (r : ProblemContent). r.variables) c.problem.view_is in
    let size = ap length c.requires.numbers ∙ length-replicate (2 * c.args.problem.now.variables) 0 in
    let places = half (length c.add_product_rises.new.numbers) q.variables (omega arith) in
    subst (λ v. All (IsNormalClause v) q.clauses) (sym places) c.problem.invariant.0.clauses

pub add_clauses-requires-clause-room : goal.add_clauses-requires-clause-room
add_clauses-requires-clause-room c = λ l.
    let q : ProblemContent = content_within c.problem.inside in
    let is : q ≡ c.args.problem.now = c.problem.view_is in
    let f : Facts q = facts q c.problem.invariant (subst IsWithinLimits (sym is) c.requires.limits) in
    let whole : c.args.whole ≡ whole_penalty q = c.requires.whole ∙ ap whole_penalty (sym is) in
    let first = rw c.iter.ensures at (c.add_product_rises.ensures l) in
    rw whole (omega (arith, first, f.rises l, f.clauses [] l, number-zero _ _ l c.requires.numbers))

pub add_constraints-requires-clause-normal : goal.add_constraints-requires-clause-normal
add_constraints-requires-clause-normal c =
    let q : ProblemContent = content_within c.problem.inside in
    let variables = ap (λ (r : ProblemContent). r.variables) c.problem.view_is in
    let size = ap length c.requires.numbers ∙ length-replicate (2 * c.args.problem.now.variables) 0 in
    let places = half (length c.add_clauses.new.numbers) q.variables (omega arith) in
    subst (λ v. All (λ (k : Constraint). All (IsNormalProduct v) k.products) q.constraints) (sym places) c.problem.invariant.0.constraints

pub add_constraints-requires-clause-room : goal.add_constraints-requires-clause-room
add_constraints-requires-clause-room c = λ l.
    let q : ProblemContent = content_within c.problem.inside in
    let is : q ≡ c.args.problem.now = c.problem.view_is in
    let f : Facts q = facts q c.problem.invariant (subst IsWithinLimits (sym is) c.requires.limits) in
    let whole : c.args.whole ≡ whole_penalty q = c.requires.whole ∙ ap whole_penalty (sym is) in
    let first = rw c.iter.ensures at (c.add_product_rises.ensures l) in
    let second = rw whole at (c.add_clauses.ensures l) in
    rw whole (omega (arith, first, second, f.rises l, f.clauses [] l, f.constraints [] l, number-zero _ _ l c.requires.numbers))

pub returns : goal.returns
returns c =
    let q : ProblemContent = content_within c.problem.inside in
    let is : q ≡ c.args.problem.now = c.problem.view_is in
    let whole : c.args.whole ≡ whole_penalty q = c.requires.whole ∙ ap whole_penalty (sym is) in
    let variables = ap (λ (r : ProblemContent). r.variables) is in
    let size = ap length c.requires.numbers ∙ length-replicate (2 * c.args.problem.now.variables) 0 in
    let marks_size = ap length c.requires.marks ∙ length-replicate (2 * c.args.problem.now.variables) false in
    let prices : (l : Literal) → number_of c.add_constraints.new.numbers l ≡ price q (without_own q) l = λ l.
    let first = rw c.iter.ensures at (c.add_product_rises.ensures l) in
    let second = rw whole at (c.add_clauses.ensures l) in
    let third = rw whole at (c.add_constraints.ensures.numbers l) in
    omega (arith, first, second, third, number-zero _ _ l c.requires.numbers) in
    let made : ArePrices q (without_own q) c.add_constraints.new.numbers c.add_constraints.new.marks = record {
      places = omega arith;
      marks_places = omega arith;
      unmarked = c.add_constraints.ensures.unmarked;
      prices = prices;
    } in
    subst (λ (r : ProblemContent). ArePrices r (without_own r) c.add_constraints.new.numbers c.add_constraints.new.marks) is made
