use Rattle.state_file.proofs.Common.{◌+◌, length, arith, lines_of}
use Rattle.state_file.proofs.StateLines.{few_lines, few_states, numbered_states}
use Rattle.state_file.proofs.lines.States.new.Goals as goal

pub invariant_of-result : goal.invariant_of-result
invariant_of-result c = omega (arith, few_lines c.args.text.now)

pub returns-clause-few : goal.returns-clause-few
returns-clause-few c =
    omega (arith, few_lines c.args.text.now, few_states c.args.width 1 (lines_of c.args.text.now))

pub returns-clause-numbers : goal.returns-clause-numbers
returns-clause-numbers c =
    let lines = lines_of c.args.text.now in
    let below = numbered_states (length lines + 1) c.args.width 1 lines (omega arith) in
    λ k d within. omega (arith, few_lines c.args.text.now, below k d within)
