use Rattle.program_run.proofs.Common.{ap, ◌∙◌, keeps_steps}
use Rattle.command_words.specs.declared.commands.Ask.TheVariants as asks
use Rattle.program_run.proofs.Lemmas.{arith, nat_tests, returned, Bits, last_step, read_wanting, last_gives, last_refuses, small_weights, bits_some, modelled}
use Rattle.program_run.proofs.made.state_told.Goals as goal

pub take_last-requires-clause-small : goal.take_last-requires-clause-small
take_last-requires-clause-small g c =
    small_weights c.args.plan.now c.args.made.now.model
    (modelled c.args.plan.now c.args.made.now c.requires.made)

pub told-requires-clause-steps : goal.told-requires-clause-steps
told-requires-clause-steps g c =
    λ is. c.requires.steps ∙ ap keeps_steps (c.requires.asked ∙ ap (asks.State c.args.name.now) is)

pub returns-in_err-bits-clause-step : goal.returns-in_err-bits-clause-step
returns-in_err-bits-clause-step g c = grind (arith, nat_tests, returned, last_refuses)

pub returns-clause-step : goal.returns-clause-step
returns-clause-step g c = λ held may.
    let plan = c.args.plan.now in
    last_gives plan (last_step held c.args.command.now.ask plan.read.variables) c.args.made.now.model
    (Bits c.in_ok-bits.bits.items) (modelled plan c.args.made.now c.requires.made)
    (c.in_ok-bits.ensures.step held may)

pub returns-clause-some : goal.returns-clause-some
returns-clause-some g c = grind (arith, nat_tests, bits_some)

pub returns-in_err-text-clause-files : goal.returns-in_err-text-clause-files
returns-in_err-text-clause-files g c = grind (arith, nat_tests, returned, read_wanting)
