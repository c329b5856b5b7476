-- Penalties of hard parts change no cost, and where they are enough the problem stands for what it stood
-- for in their scope.
use Rattle.source_texts.proofs.Common.{PenalizedCostsAsSources, PenalizedStandsForSources}
use Rattle.form_steps.specs.declared.scope.PenaltyScope.TheVariants.{Global, Local}

pub penalized_stands : PenalizedStandsForSources
penalized_stands Global s r stands enough = stands
penalized_stands Local s r stands enough = record {
  variables = stands.variables;
  own = stands.own;
  upper = stands.upper;
  rewrites = stands.rewrites;
  penalties = enough;
}

pub penalized_costs : PenalizedCostsAsSources
penalized_costs Global most s r costs = costs
penalized_costs Local most s r costs = record {
  own = costs.own;
  width = costs.width;
  begins = costs.begins;
  same = costs.same;
  told = costs.told;
  carries = costs.carries;
  plain = costs.plain;
  plain_most = costs.plain_most;
}
