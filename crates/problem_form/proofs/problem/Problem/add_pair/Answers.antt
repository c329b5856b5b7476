use Rattle.problem_form.proofs.Lemmas.{arith, nat_tests, ◌<◌, List, [], ◌∷◌, ◌++◌, All-cons, All-nil, Literal, Clause, IsSound, content_within, kept_clause, ProblemContent, by_result, at_view, hard_clause, hard_clause-sound, pair, with_clause-hard, on_ok}
use Rattle.problem_form.proofs.problem.Problem.add_pair.Goals as goal

pub invariant_of-self : goal.invariant_of-self
invariant_of-self c =
    let p = content_within c.self.inside in
    let two = pair c.args.first c.args.second in
    let Kept : ProblemContent → Type 0 = λ q. IsSound (record q { clauses = q.clauses ++ kept_clause two }) in
    let Within : Literal → Type 0 = λ l. l.variable < c.args.self.now.variables in
    let With : List Clause → Type 0 = λ cs. IsSound (record p { clauses = cs }) in
    by_result c.keep_pair.result With c.keep_pair.new.clauses (p.clauses ++ kept_clause two) p.clauses
    c.keep_pair.ensures.kept c.keep_pair.ensures.unchanged
    (at_view Kept p c.args.self.now c.self.view_is (λ s. hard_clause-sound _ two.literals s
    (All-cons Within c.args.first (c.args.second ∷ []) c.requires.first (All-cons Within c.args.second [] c.requires.second (All-nil Within))))
    c.self.invariant) c.self.invariant

pub returns-clause-added : goal.returns-clause-added
returns-clause-added c = grind (arith, nat_tests, on_ok, hard_clause, with_clause-hard)
