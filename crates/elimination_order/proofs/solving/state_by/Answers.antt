use Rattle.elimination_order.proofs.Common.{arith, nat_tests, subst, IsWellFormed, IfOk-weaker}
use Rattle.elimination_order.proofs.Carried.{first-taken_back}
use Rattle.elimination_order.proofs.Widths.{first_wider-named, none_wider-named}
use Rattle.elimination_order.proofs.solving.state_by.Goals as goal

pub returns-clause-state : goal.returns-clause-state
returns-clause-state c =
    let formed = subst IsWellFormed c.model.view_is c.model.invariant.0 in
    grind (arith, nat_tests, IfOk-weaker, first-taken_back)

pub returns-clause-narrow : goal.returns-clause-narrow
returns-clause-narrow c = grind (arith, nat_tests, IfOk-weaker, none_wider-named)

pub returns-clause-wide : goal.returns-clause-wide
returns-clause-wide c = λ v w is.
    let names = c.args.numbering.now.names.items in
    let numbers = c.args.numbering.now.numbers.items in
    let formed = subst IsWellFormed c.model.view_is c.model.invariant.0 in
    first_wider-named names numbers c.args.model.now c.in_ok-columns.columns formed c.requires
    c.in_ok-columns.ensures 16 v w (c.solve_columns.ensures.wide v w is)
