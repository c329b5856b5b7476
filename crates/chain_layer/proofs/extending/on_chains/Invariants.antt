use Rattle.chain_layer.proofs.Common.{◌≡◌, ◌<◌, ◌&&◌, ℕ, false, length, get_or, list_any, range_with_len, bit_at, is_in, chain_of}
use Rattle.chain_layer.proofs.extending.on_chains.Given as goal

-- the chains of the nodes so far that are 1 are set
abbrev pub invariant-loop-i : goal.invariant-loop-i
invariant-loop-i l = record {
  wide : length l.y.items ≡ l.qubits;
  bits : (q : ℕ) → q < l.qubits → get_or l.y.items q false
      ≡ list_any (λ j. bit_at l.x j && is_in (chain_of l.chains j) q) (range_with_len 0 l.i);
}
