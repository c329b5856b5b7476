use Rattle.quadratization.proofs.Common.{◌≡◌, ◌<◌, ◌^◌, ◌++◌, map, All, Literal, pair_coupler}
use Rattle.quadratization.proofs.rows.add_later.Given as goal

-- the literals that are left make the row that of all
abbrev pub invariant-loop-other : goal.invariant-loop-other
invariant-loop-other l = record {
  whole : l.row ++ map (pair_coupler l.fn.literal l.fn.coefficient) l.other-iterator
      ≡ l.initial.row ++ map (pair_coupler l.fn.literal l.fn.coefficient) l.initial.other-iterator;
  within : All (λ (k : Literal). k.variable < 2 ^ 32) l.other-iterator;
}
