use Rattle.bits_model.proofs.Common.{◌≡◌, length, map, take, majority}
use Rattle.bits_model.proofs.reading_off.read_chains.Given as goal

-- the first places have the bits of the first chains
abbrev pub invariant-loop-node : goal.invariant-loop-node
invariant-loop-node l = record {
  len : length l.x ≡ length l.fn.x;
  so_far : take l.node l.x ≡ map (majority l.y) (take l.node l.chains);
}
