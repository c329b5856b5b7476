use Rattle.posiform_check.proofs.Common.{arith, ints}
use Rattle.posiform_check.proofs.quick.find_same.Goals as goal

pub returns-then-branch : goal.returns-then-branch
returns-then-branch c =
    let none = c.in_ok-cancel.ensures c.if-branch.true in
    λ set. omega (arith, ints, c.in_ok-add_difference.ensures set, none set)
