use Rattle.chain_map.proofs.Common.{◌≡◌, take, path_of}
use Rattle.chain_map.proofs.spot.fill_chain.Given as goal

-- the qubits so far
abbrev pub invariant-loop-steps : goal.invariant-loop-steps
invariant-loop-steps l = l.chain.items ≡ take l.steps (path_of l.graph l.spot.cell l.spot.at)
