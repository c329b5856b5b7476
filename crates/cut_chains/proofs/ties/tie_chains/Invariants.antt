use Rattle.cut_chains.proofs.Common.{◌≡◌, ◌<◌, ◌≤◌, ◌++◌, [], ℕ, true, false, length, get_or, All, flat_map, range_with_len, is_in, chain_of, weight_of, node_ties}
use Rattle.cut_chains.proofs.ties.tie_chains.Given as goal

-- the ties so far; the qubits of the chains that are left hold their weights, and are not marked
abbrev pub invariant-loop-i : goal.invariant-loop-i
invariant-loop-i l = record {
  made : l.made ≡ l.initial.made ++ flat_map (node_ties l.source) (range_with_len 0 l.i);
  sized : length l.sums ≡ l.source.qubits;
  ups : length l.up ≡ l.source.qubits;
  known : All (λ q. q < l.source.qubits) l.up;
  seens : length l.seen ≡ l.source.qubits;
  empty : l.path.items ≡ [];
  held : (j : ℕ) → l.i ≤ j → j < length l.source.ising.fields → (q : ℕ)
      → is_in (chain_of l.source.chains j) q ≡ true → get_or l.sums q 0 ≡ weight_of l.source q;
  unseen : (j : ℕ) → l.i ≤ j → j < length l.source.ising.fields → (q : ℕ)
      → is_in (chain_of l.source.chains j) q ≡ true → get_or l.seen q true ≡ false;
}
