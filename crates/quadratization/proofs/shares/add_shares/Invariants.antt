use Rattle.quadratization.proofs.Common.{◌≡◌, take, total_by, Gain, all_shares, long_constant, shares_total}
use Rattle.quadratization.proofs.shares.add_shares.Given as goal

-- what the terms so far give is added
abbrev pub invariant-loop-i : goal.invariant-loop-i
invariant-loop-i l = record {
  gain :
      Gain (all_shares (take l.i l.long.terms) l.long.width) (shares_total (all_shares (take l.i l.long.terms) l.long.width))
      l.initial.weights l.weights;
  constant : l.constant ≡ total_by long_constant (take l.i l.long.terms);
}
