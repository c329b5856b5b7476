use Rattle.conflict_clauses.proofs.Common.{◌∙◌, ap, sym, not}
use Rattle.conflict_clauses.proofs.Replaced.{place}
use Rattle.conflict_clauses.proofs.Added.{cover_added, none_added}
use Rattle.conflict_clauses.proofs.replacing.replace_cover.Goals as goal

pub returns-then-not-branch-clause-clauses : goal.returns-then-not-branch-clause-clauses
returns-then-not-branch-clause-clauses c k at =
    none_added c.args.problem.now k
    (sym (c.in_ok-take_cover.ensures.taken k at).told ∙ c.if-not-branch.true)

pub returns-then-not-branch-clause-stays : goal.returns-then-not-branch-clause-stays
returns-then-not-branch-clause-stays c k at =
    ap not (sym c.if-not-branch.true ∙ (c.in_ok-take_cover.ensures.taken k at).told)

pub add_literals-requires-clause-within : goal.add_literals-requires-clause-within
add_literals-requires-clause-within c =
    let here = place c.args.problem.now.constraints c.args.i c.requires in
    (c.in_ok-take_cover.ensures.taken here.element here.at).within c.if-not-branch.false

pub returns-clause-clauses : goal.returns-clause-clauses
returns-clause-clauses c k at =
    let taken = c.in_ok-take_cover.ensures.taken k at in
    c.in_ok-add_literals.ensures.added
    ∙ cover_added c.args.problem.now k c.take_cover.new.lists.needed.items
    (sym taken.told ∙ c.if-not-branch.false) (taken.lists c.if-not-branch.false)

pub returns-clause-stays : goal.returns-clause-stays
returns-clause-stays c k at =
    ap not (sym c.if-not-branch.false ∙ (c.in_ok-take_cover.ensures.taken k at).told)
