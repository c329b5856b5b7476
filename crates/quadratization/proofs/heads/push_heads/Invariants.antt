use Rattle.quadratization.proofs.Common.{◌≡◌, ◌++◌, drop, flat_map, head_part}
use Rattle.quadratization.proofs.heads.push_heads.Given as goal

-- the heads that are left make the couplers those of all
abbrev pub invariant-loop-head : goal.invariant-loop-head
invariant-loop-head l =
    l.couplers ++ flat_map head_part (drop l.head-index l.heads)
    ≡ l.initial.couplers ++ flat_map head_part l.heads
