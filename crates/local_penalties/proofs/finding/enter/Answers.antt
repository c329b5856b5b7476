use Rattle.local_penalties.proofs.Common.{◌≡◌, ◌∙◌, sym, ap, subst, arith, ProblemContent, Literal, price, whole_penalty, number_of}
use Rattle.problem_form.proofs.Common.{content_within}
use Rattle.local_penalties.specs.Kept.{ArePrices, IsWithinLimits}
use Rattle.local_penalties.proofs.Bounds.{Facts, facts}
use Rattle.local_penalties.proofs.finding.enter.Goals as goal

pub enter_clauses-requires-clause-room : goal.enter_clauses-requires-clause-room
enter_clauses-requires-clause-room c = λ l.
    let q : ProblemContent = content_within c.problem.inside in
    let is : q ≡ c.args.problem.now = c.problem.view_is in
    let f : Facts q = facts q c.problem.invariant (subst IsWithinLimits (sym is) c.requires.limits) in
    let whole : c.args.whole ≡ whole_penalty q = c.requires.whole ∙ ap whole_penalty (sym is) in
    let h = subst (λ (r : ProblemContent). ArePrices r c.args.was.now c.args.numbers.now c.args.marks.now) (sym is) c.requires.prices in
    let price = h.prices l in
    rw whole (omega (arith, price, f.rises l, f.clauses c.args.was.now.clauses l, f.constraints c.args.was.now.constraints l, f.clauses c.as_slice-after.result.now l))

pub enter_constraints-requires-clause-missing : goal.enter_constraints-requires-clause-missing
enter_constraints-requires-clause-missing c =
    let q : ProblemContent = content_within c.problem.inside in
    let f : Facts q = facts q c.problem.invariant (subst IsWithinLimits (sym c.problem.view_is) c.requires.limits) in
    f.missing

pub enter_constraints-requires-clause-room : goal.enter_constraints-requires-clause-room
enter_constraints-requires-clause-room c = λ l.
    let q : ProblemContent = content_within c.problem.inside in
    let is : q ≡ c.args.problem.now = c.problem.view_is in
    let f : Facts q = facts q c.problem.invariant (subst IsWithinLimits (sym is) c.requires.limits) in
    let whole : c.args.whole ≡ whole_penalty q = c.requires.whole ∙ ap whole_penalty (sym is) in
    let h = subst (λ (r : ProblemContent). ArePrices r c.args.was.now c.args.numbers.now c.args.marks.now) (sym is) c.requires.prices in
    let price = h.prices l in
    let first = rw whole at (c.enter_clauses.ensures l) in
    rw whole (omega (arith, first, price, f.rises l, f.clauses c.args.was.now.clauses l, f.constraints c.args.was.now.constraints l, f.clauses c.as_slice-after.result.now l, f.constraints c.as_slice-after-2.result.now l))

pub returns : goal.returns
returns c =
    let q : ProblemContent = content_within c.problem.inside in
    let is : q ≡ c.args.problem.now = c.problem.view_is in
    let whole : c.args.whole ≡ whole_penalty q = c.requires.whole ∙ ap whole_penalty (sym is) in
    let h = subst (λ (r : ProblemContent). ArePrices r c.args.was.now c.args.numbers.now c.args.marks.now) (sym is) c.requires.prices in
    let prices : (l : Literal) → number_of c.enter_constraints.new.numbers l ≡ price q c.args.is.now l = λ l.
    let price = h.prices l in
    let first = rw (whole, c.as_slice-before.ensures, c.as_slice-after.ensures) at (c.enter_clauses.ensures l) in
    let second = rw (whole, c.as_slice-before-2.ensures, c.as_slice-after-2.ensures) at (c.enter_constraints.ensures.numbers l) in
    omega (arith, first, second, price) in
    let made : ArePrices q c.args.is.now c.enter_constraints.new.numbers c.enter_constraints.new.marks = record {
      places = omega (arith, h.places);
      marks_places = omega (arith, h.marks_places);
      unmarked = c.enter_constraints.ensures.unmarked;
      prices = prices;
    } in
    subst (λ (r : ProblemContent). ArePrices r c.args.is.now c.enter_constraints.new.numbers c.enter_constraints.new.marks) is made
