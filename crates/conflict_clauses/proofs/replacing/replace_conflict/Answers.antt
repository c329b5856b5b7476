use Rattle.conflict_clauses.proofs.Common.{Constraint, ◌≡◌, ℕ, ap, sym, subst, arith, false, Option, MatchOption, ProblemContent, is_replaced, AreWithin, IsTaken}
use Rattle.conflict_clauses.proofs.Replaced.{place}
use Rattle.conflict_clauses.proofs.Taken.{taken-bound}
use Rattle.conflict_clauses.proofs.replacing.replace_conflict.Goals as goal
use Rattle.conflict_clauses.proofs.replacing.replace_conflict.Goals.{In-Some}

-- the constraint at the place is to be replaced, and what was taken is what it wants
taken_there : (c : In-Some) → (k : Constraint)
    × IsTaken c.args.problem.now.variables c.args.spent.now k c.take_at.new.lists.needed.items
    c.take_at.new.lists.others.items c.in-Some.pairs
taken_there c =
    let here = place c.args.problem.now.constraints c.args.i c.requires.within in
    let k = here.element in
    let Taken : Option ℕ → Type 0 =
    λ o. MatchOption o (is_replaced c.args.spent.now k ≡ false)
    (IsTaken c.args.problem.now.variables c.args.spent.now k c.take_at.new.lists.needed.items
    c.take_at.new.lists.others.items) in
    (k, subst Taken c.in-Some.is (c.in_ok-pairs.ensures.taken k here.at))

pub add_each-requires : goal.add_each-requires
add_each-requires c =
    let t = (taken_there (goal.at.add_each-requires c).In-Some).1 in
    subst (AreWithin c.args.problem.now.variables) (sym c.deref.ensures.value) t.alones_within

pub add_pairs-requires : goal.add_pairs-requires
add_pairs-requires c =
    let p = c.args.problem.now in
    let t = (taken_there (goal.at.add_pairs-requires c).In-Some).1 in
    let Below : ℕ → Type 0 = λ v. AreWithin v c.deref-2.result.now in
    let variables : c.add_each.new.problem.variables ≡ p.variables =
    ap (λ (q : ProblemContent). q.variables) c.in_ok-add_each.ensures in
    subst Below (sym variables)
    (subst (AreWithin p.variables) (sym c.deref-2.ensures.value) t.others_within)

pub overflow_add-spent : goal.overflow_add-spent
overflow_add-spent c =
    let t = taken_there (goal.at.overflow_add-spent c).In-Some in
    omega (arith, taken-bound _ c.args.spent.now t.0 _ _ c.in-Some.pairs t.1)

pub returns-clause-bounded : goal.returns-clause-bounded
returns-clause-bounded c =
    let t = taken_there (goal.at.returns-clause-bounded c).In-Some in taken-bound _ _ t.0 _ _ _ t.1
