use Rattle.program_run.proofs.Common.{rules}
use Rattle.program_run.proofs.SmallCosts.{costs_are_small}
use Rattle.program_run.proofs.judging.ModelJudgeJudge.costs.Goals as goal

pub returns-in-Some-clause-small : goal.returns-in-Some-clause-small
returns-in-Some-clause-small c =
    costs_are_small c.self.inside.read.now c.self.inside.model.now c.args.states.now c.costs_together.new.costs
    c.self.invariant.0.kept c.self.invariant.0.within (search rules) c.costs_together.ensures.costs

pub returns-in-None-clause-small : goal.returns-in-None-clause-small
returns-in-None-clause-small c =
    costs_are_small c.self.inside.read.now c.self.inside.model.now c.args.states.now c.costs_in_turn.new.costs
    c.self.invariant.0.kept c.self.invariant.0.within (search rules) c.costs_in_turn.ensures
