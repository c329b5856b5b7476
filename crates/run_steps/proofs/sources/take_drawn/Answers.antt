use Rattle.run_steps.proofs.Sampled.{drawn_for, drawn_within}
use Rattle.run_steps.proofs.Sourced.{within_penalized}
use Rattle.run_steps.proofs.sources.take_drawn.Goals as goal

pub penalized-requires-clause-within : goal.penalized-requires-clause-within
penalized-requires-clause-within c =
    let normal = c.args.command.now.choices.normal in (
      normal,
      drawn_within c.args.number c.args.clauses c.args.command.now c.in_ok-own.own c.in_ok-read.read
          (c.in_ok-own.ensures.read normal) c.in_ok-read.ensures.value,
    )

pub returns-clause-drawn : goal.returns-clause-drawn
returns-clause-drawn c =
    let command = c.args.command.now in
    drawn_for c.args.number c.args.clauses command c.in_ok-own.own c.in_ok-read.read _
    (c.in_ok-own.ensures.read command.choices.normal) c.in_ok-read.ensures.value
    c.in_ok-penalized.ensures.value

pub returns-clause-within : goal.returns-clause-within
returns-clause-within c =
    let command = c.args.command.now in
    within_penalized command c.in_ok-read.read _ c.in_ok-penalized.ensures.value
    (drawn_within c.args.number c.args.clauses command c.in_ok-own.own c.in_ok-read.read
    (c.in_ok-own.ensures.read command.choices.normal) c.in_ok-read.ensures.value)
