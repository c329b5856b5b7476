use Rattle.conflict_clauses.proofs.Common.{◌<◌, ◌∙◌, ap, sym, subst, false, map, get_or, take_all, Literal, ProblemContent, alone, with_hard}
use Rattle.conflict_clauses.proofs.Added.{each-step, here_again}
use Rattle.conflict_clauses.proofs.clauses.add_each.Goals as goal

pub add_alone-requires : goal.add_alone-requires
add_alone-requires c =
    let none : Literal = record { variable = 0; negated = false } in
    let i = c.loop-literal.literal-index in
    subst (λ (q : ProblemContent). (get_or c.args.literals.now i none).variable < q.variables)
    (sym c.loop-literal.invariant) (c.requires i none c.loop-literal-test.true)

pub loop-literal-preserved : goal.loop-literal-preserved
loop-literal-preserved c =
    let none : Literal = record { variable = 0; negated = false } in
    let i = c.loop-literal.literal-index in
    let ls = c.args.literals.now in
    each-step c.args.problem.now c.loop-literal.problem c.add_alone.new.problem ls i (get_or ls i none)
    c.loop-literal-test.true (here_again ls i none c.loop-literal-test.true) c.in_ok-add_alone.ensures
    c.loop-literal.invariant

pub returns : goal.returns
returns c =
    c.loop-literal.invariant ∙ ap (λ ls. with_hard c.args.problem.now (map alone ls))
    (take_all c.loop-literal.literal-index c.args.literals.now c.loop-literal-test.false)
