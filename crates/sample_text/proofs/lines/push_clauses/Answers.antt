use Rattle.std.proofs.Common.{◌≡◌, ◌-◌, ◌+◌, zero, suc, arith}
use Rattle.sample_text.proofs.Clauses.{clause_added, clauses_done}
use Rattle.sample_text.proofs.lines.push_clauses.Goals as goal

pub loop-preserved : goal.loop-preserved
loop-preserved c =
    let left = c.args.count - c.loop.counter in
    let rest = c.args.count - (c.loop.counter + 1) in
    let is : left ≡ suc rest = omega (arith, c.loop-test.true) in
    clause_added _ _ _ _ _ _ _ _ _ is c.loop.invariant c.in_ok-push_clause.ensures.text
    c.in_ok-push_clause.ensures.state

pub returns : goal.returns
returns c =
    let none : c.args.count - c.loop.counter ≡ zero = omega (arith, c.loop-test.false) in
    clauses_done c.loop.text.items _ _ c.args.variables c.args.top c.loop.draws.state none c.loop.invariant
