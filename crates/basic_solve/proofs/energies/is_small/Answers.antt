use Rattle.basic_solve.proofs.Common.{ints, nat_tests, ◌≡◌, ◌+◌, ap, sym, subst, arith, drop, drop_all, length-map, map, weight_total, turned}
use Rattle.basic_solve.proofs.ColumnLists.{weight_left}
use Rattle.basic_solve.proofs.energies.is_small.Goals.{After-unsigned_abs-sum}
use Rattle.basic_solve.proofs.energies.is_small.Goals as goal

-- the sum so far, the weight that is added, and the weights that are left
more : (c : After-unsigned_abs-sum) → (c.loop-i.sum + c.unsigned_abs-sum.result)
    + weight_total (drop (c.loop-i.i + 1) (map turned c.model.inside.pairs))
    ≡ weight_total (map turned c.model.inside.pairs)
more c =
    let so_far = subst (λ es. c.loop-i.sum + weight_total (drop c.loop-i.i es) ≡ weight_total es)
    (ap (λ w. w.entries) (sym c.model.view_is)) c.loop-i.invariant in
    let left = weight_left c.model.inside.pairs c.loop-i.i c.at.result
    (omega (arith, c.loop-i-test.true, c.len-i-end.ensures)) c.at.ensures.value in
    omega (arith, ints, so_far, left, c.model.invariant.light, c.unsigned_abs-sum.ensures.value)

pub overflow_add-sum : goal.overflow_add-sum
overflow_add-sum c =
    omega (arith, more (goal.at.overflow_add-sum c).After-unsigned_abs-sum, c.model.invariant.light)

pub loop-i-preserved : goal.loop-i-preserved
loop-i-preserved c = rw (← c.model.view_is) (more (goal.at.loop-i-preserved c).After-unsigned_abs-sum)

pub returns-clause-small : goal.returns-clause-small
returns-clause-small c =
    let ps = c.model.inside.pairs in
    let so_far = rw (← c.model.view_is) at c.loop-i.invariant in
    let none = ap weight_total (drop_all c.loop-i.i (map turned ps)
    (omega (arith, c.loop-i-test.false, c.len-i-end.ensures, length-map ps turned))) in
    let same = ap (λ w. weight_total w.entries) c.model.view_is in
    grind (arith, nat_tests)

pub returns-clause-light : goal.returns-clause-light
returns-clause-light c =
    omega (arith, c.model.invariant.light, ap (λ w. weight_total w.entries) c.model.view_is)
