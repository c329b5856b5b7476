use Rattle.chain_layer.proofs.Common.{◌≡◌, ◌+◌, get_or, unsigned_abs, arith, ints, get_or-set_other}
use Rattle.chain_layer.proofs.Added.{ends_raised}
use Rattle.chain_layer.proofs.strengths.raise_ends.Goals.{After-unsigned_abs-size}
use Rattle.chain_layer.proofs.strengths.raise_ends.Goals as goal

size_is : (c : After-unsigned_abs-size) → c.unsigned_abs-size.result ≡ unsigned_abs c.args.coupling.now.weight
size_is c = omega (arith, ints, c.requires.small c.args.coupling.now.second c.requires.ends.within)

pub raise-requires-clause-small : goal.raise-requires-clause-small
raise-requires-clause-small c =
    let ends = c.requires.ends in
    omega (arith, size_is (goal.at.raise-requires-clause-small c).After-unsigned_abs-size, c.requires.small c.args.coupling.now.first (omega (arith, ends.upward, ends.within)))

pub raise-requires-2-clause-small : goal.raise-requires-2-clause-small
raise-requires-2-clause-small c =
    let e = c.args.coupling.now in
    let ends = c.requires.ends in
    let raised = get_or c.args.sums.now e.first 0 + c.unsigned_abs-size.result in
    let other = get_or-set_other c.args.sums.now e.first e.second raised 0 (λ same. omega (arith, same, ends.upward)) in
    rw (c.raise.ensures, other)
    (omega (arith, size_is (goal.at.raise-requires-2-clause-small c).After-unsigned_abs-size, c.requires.small e.second ends.within))

pub returns-clause-sums : goal.returns-clause-sums
returns-clause-sums c =
    ends_raised c.args.sums.now _ _ c.args.coupling.now _ c.requires.ends
    (size_is (goal.at.returns-clause-sums c).After-unsigned_abs-size) c.raise.ensures c.raise-2.ensures
