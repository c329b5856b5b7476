use Rattle.chain_layer.proofs.Common.{◌≡◌, ◌+◌, ◌*◌, ◌≤◌, fold, length, drop, unsigned_abs, equal_shares, added, sizes_of}
use Rattle.chain_layer.proofs.shares.add_each.Given as goal

-- the shares that are left lead to the same fields, and each of those so far is within the size of one
abbrev pub invariant-loop-qubit : goal.invariant-loop-qubit
invariant-loop-qubit l = record {
  added : fold added l.fields (equal_shares (drop l.qubit-index l.qubits) l.share) ≡ fold added l.initial.fields (equal_shares l.qubits l.share);
  length : length l.fields ≡ length l.initial.fields;
  sizes : sizes_of l.fields ≤ sizes_of l.initial.fields + l.qubit-index * unsigned_abs l.share;
}
