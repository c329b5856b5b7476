use Rattle.run_steps.proofs.Lemmas.{arith, nat_tests, refl, Command, NamedFiles, Read, Plan, Steps, ◌>>=◌, gives, placing, planning, refuses, source_refuses, source_then, still_refuses, takes_given, ModelTarget}
use Rattle.run_steps.specs.Steps.{options_of}
use Rattle.run_steps.proofs.plans.take_plan.Goals as goal

-- the plan of what is read, on what it stands
abbrev plan_of : Command → Read → ModelTarget → Plan
plan_of command read target = record { read = read; options = options_of command target }

-- what comes after the source
abbrev after : Command → NamedFiles → Read → Steps Plan
after command held read = placing held command.target >>= λ target. gives (plan_of command read target)

pub returns-in_err-read-clause-took : goal.returns-in_err-read-clause-took
unfolding planning
returns-in_err-read-clause-took g c =
    source_refuses c.args.command.now (λ (plan : Plan). plan) (after c.args.command.now)
    c.from_residual.ensures.1 c.in_err-read.ensures.took

pub returns-in_err-read-clause-refusal : goal.returns-in_err-read-clause-refusal
returns-in_err-read-clause-refusal g c = grind (arith, nat_tests, refuses, source_refuses, after)

pub returns-in_err-target-clause-took : goal.returns-in_err-target-clause-took
unfolding planning
returns-in_err-target-clause-took g c =
    source_then c.args.command.now (λ (plan : Plan). plan) (after c.args.command.now)
    c.in_ok-read.ensures.took
    (still_refuses (λ held target. gives (plan_of c.args.command.now c.in_ok-read.read target))
    c.from_residual-in_err-target.ensures.1 c.in_err-target.ensures)

pub returns-in_err-target-clause-refusal : goal.returns-in_err-target-clause-refusal
returns-in_err-target-clause-refusal g c =
    grind (arith, nat_tests, refuses, source_then, after, still_refuses, plan_of)

pub returns-clause-took : goal.returns-clause-took
unfolding planning
returns-clause-took g c =
    rw c.keeps_steps.ensures
    (source_then c.args.command.now (λ (plan : Plan). plan) (after c.args.command.now)
    c.in_ok-read.ensures.took
    (takes_given (plan_of c.args.command.now c.in_ok-read.read) refl c.in_ok-target.ensures))
