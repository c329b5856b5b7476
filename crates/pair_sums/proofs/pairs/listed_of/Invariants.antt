use Rattle.pair_sums.proofs.Common.{◌≡◌, ◌++◌, map, drop, unpacked}
use Rattle.pair_sums.proofs.pairs.listed_of.Given as goal

-- the couplers so far, and those of the codes that are left
abbrev pub invariant-loop-code : goal.invariant-loop-code
invariant-loop-code l =
    l.listed ++ map (unpacked l.shape) (drop l.code-index l.codes) ≡ map (unpacked l.shape) l.codes
