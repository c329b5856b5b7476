use Rattle.state_scores.proofs.Common.{drop, rules, take_at}
use Rattle.state_scores.proofs.batch.Batch.judge.Goals as goal

pub energies-requires-clause-width : goal.energies-requires-clause-width
energies-requires-clause-width g c = rw c.costs.ensures.same c.requires.width

pub returns-clause-costs : goal.returns-clause-costs
returns-clause-costs g c = rw (take_at c.costs.new.costs (drop _ _) c.args.self.now.costs.len (search rules)) c.costs.ensures.costs

pub returns-clause-small : goal.returns-clause-small
returns-clause-small g c = rw (take_at c.costs.new.costs (drop _ _) c.args.self.now.costs.len (search rules)) c.costs.ensures.small

pub returns-clause-energies : goal.returns-clause-energies
returns-clause-energies g c =
    rw (take_at c.energies.new.energies (drop _ _) c.args.self.now.energies.len (search rules))
    (rw c.costs.ensures.same at c.energies.ensures.energies)

pub returns-clause-room : goal.returns-clause-room
returns-clause-room g c = rw (take_at c.costs.new.costs (drop _ _) c.args.self.now.costs.len (search rules)) (search rules)

pub returns-clause-measured : goal.returns-clause-measured
returns-clause-measured g c = rw (take_at c.energies.new.energies (drop _ _) c.args.self.now.energies.len (search rules)) (search rules)
