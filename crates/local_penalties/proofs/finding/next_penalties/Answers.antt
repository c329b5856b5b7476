use Rattle.local_penalties.proofs.Common.{◌≡◌, ◌∙◌, sym, ap, ProblemContent, PartPenalties, next_penalties, next_clauses, next_constraints, price, whole_penalty, number_of}
use Rattle.problem_form.proofs.Common.{content_within}
use Rattle.local_penalties.proofs.finding.next_penalties.Goals as goal

pub returns : goal.returns
returns c =
    let q : ProblemContent = content_within c.problem.inside in
    let is : q ≡ c.args.problem.now = c.problem.view_is in
    let found : PartPenalties = c.args.found.now in
    let prices : number_of c.args.numbers.now ≡ price q found =
    (λ j l. c.requires.prices l j) ∙ ap (λ (r : ProblemContent). price r found) (sym is) in
    let whole : c.args.whole ≡ whole_penalty q = c.requires.whole ∙ ap whole_penalty (sym is) in
    let clauses : c.in_ok-clauses.clauses.items ≡ next_clauses (price q found) (whole_penalty q) found.clauses q.clauses =
    c.in_ok-clauses.ensures ∙ (λ j. next_clauses (prices j) (whole j) (c.as_slice-own.ensures j) q.clauses) in
    let constraints : c.in_ok-constraints.constraints.items ≡ next_constraints (price q found) (whole_penalty q) found.constraints q.constraints =
    c.in_ok-constraints.ensures ∙ (λ j. next_constraints (prices j) (whole j) (c.as_slice-own-2.ensures j) q.constraints) in
    let made : PartPenalties = record { clauses = c.in_ok-clauses.clauses.items; constraints = c.in_ok-constraints.constraints.items } in
    let both : made ≡ next_penalties q found = λ j. record { clauses = clauses j; constraints = constraints j } in
    c.new.ensures ∙ both ∙ ap (λ (r : ProblemContent). next_penalties r found) is
