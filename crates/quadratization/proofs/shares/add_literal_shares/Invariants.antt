use Rattle.quadratization.proofs.Common.{◌<◌, length, map, All, Literal, literal_share}
use Rattle.quadratization.proofs.GainedShares.{Gaining}
use Rattle.quadratization.proofs.shares.add_literal_shares.Given as goal

-- the shares of the literals that are left make all of them
abbrev pub invariant-loop-literal : goal.invariant-loop-literal
invariant-loop-literal l = record {
  gaining :
      Gaining l.initial.weights l.weights (map (literal_share l.fn.negated l.fn.coefficient) l.literal-iterator)
      (map (literal_share l.fn.negated l.fn.coefficient) l.initial.literal-iterator);
  within : All (λ (k : Literal). k.variable < length l.initial.weights) l.literal-iterator;
}
