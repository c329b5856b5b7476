-- A problem with clauses in place of its conflicts and covers stands for what it stood for, and costs
-- what it did: its own costs are the same, and so are its variables and its upper bound.
use Rattle.source_texts.proofs.Common.{nat_tests, arith, ◌≡◌, Bool, List, None, refl, ProblemContent, own_cost, with_most, CostsAlike, IsGlobal, covers-alike, without-alike, Slack, Read, slacked, with_slack, SlackedCostsAsSources, SlackedStandsForSources, KeepsSoft}
use Rattle.command_words.specs.declared.commands.Slack.TheVariants.{Bits, Pairs, Clauses}

pub slack-alike : (slack : Slack) (p : ProblemContent) → CostsAlike (with_slack slack p) p
slack-alike Bits p = record {
  variables = refl;
  most = refl;
  size = refl;
  own_upper = refl;
  upper = refl;
  costs = λ x. refl;
}
slack-alike Pairs p = without-alike p
slack-alike Clauses p = covers-alike p

-- the most stays as it is, and no part gets a penalty of its own
most-slack : (slack : Slack) (p : ProblemContent) → (with_slack slack p).most ≡ p.most
most-slack slack p = (slack-alike slack p).most

pub global-slack : (slack : Slack) (p : ProblemContent) → IsGlobal p → IsGlobal (with_slack slack p)
global-slack slack p global = grind (arith, nat_tests)

-- without a most nothing is cut off
own-cost : (slack : Slack) (p : ProblemContent) (x : List Bool)
    → own_cost (with_slack slack p) x ≡ own_cost p x
own-cost Bits p x = refl
own-cost Pairs p x = (without-alike (with_most p None)).costs x
own-cost Clauses p x = (covers-alike (with_most p None)).costs x

-- soft constraints are kept beside it
pub keeps_slacked : (slack : Slack) (r : Read) → KeepsSoft r → KeepsSoft (slacked slack r)
keeps_slacked slack r kept = grind (arith, nat_tests, own-cost, slack-alike)

pub slacked_stands : SlackedStandsForSources
slacked_stands slack s r stands most =
    grind (arith, nat_tests, stands most, slack-alike slack r.problem, own-cost, global-slack)

pub slacked_costs : SlackedCostsAsSources
slacked_costs slack most s r costs = grind (arith, nat_tests, own-cost, slack-alike slack r.problem)
