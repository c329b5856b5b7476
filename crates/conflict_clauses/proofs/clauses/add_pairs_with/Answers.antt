use Rattle.conflict_clauses.proofs.Common.{◌<◌, ◌∷◌, ◌∙◌, ap, sym, subst, false, List, map, get_or, take_all, Literal, ProblemContent, alone, with_hard}
use Rattle.conflict_clauses.proofs.Added.{here_again, pairs_with-step}
use Rattle.conflict_clauses.proofs.clauses.add_pairs_with.Goals as goal

pub add_pair-requires-clause-first : goal.add_pair-requires-clause-first
add_pair-requires-clause-first c =
    subst (λ (q : ProblemContent). c.args.first.variable < q.variables) (sym c.loop-second.invariant)
    c.requires.first

pub add_pair-requires-clause-second : goal.add_pair-requires-clause-second
add_pair-requires-clause-second c =
    let none : Literal = record { variable = 0; negated = false } in
    let i = c.loop-second.second-index in
    subst (λ (q : ProblemContent). (get_or c.args.others.now i none).variable < q.variables)
    (sym c.loop-second.invariant) (c.requires.others i none c.loop-second-test.true)

pub loop-second-preserved : goal.loop-second-preserved
loop-second-preserved c =
    let none : Literal = record { variable = 0; negated = false } in
    let i = c.loop-second.second-index in
    let ls = c.args.others.now in
    pairs_with-step c.args.problem.now c.loop-second.problem c.add_pair.new.problem c.args.first ls i
    (get_or ls i none) c.loop-second-test.true (here_again ls i none c.loop-second-test.true)
    c.in_ok-add_pair.ensures c.loop-second.invariant

pub returns : goal.returns
returns c =
    c.loop-second.invariant
    ∙ ap (λ ls. with_hard c.args.problem.now (map (λ (ks : List Literal). c.args.first ∷ ks) (map alone ls)))
    (take_all c.loop-second.second-index c.args.others.now c.loop-second-test.false)
