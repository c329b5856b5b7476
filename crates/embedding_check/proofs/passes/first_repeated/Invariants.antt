use Rattle.embedding_check.proofs.Common.{◌≡◌, ℕ, ◌<◌, take, length, chain_of, occurrences, marked, IsNew}
use Rattle.embedding_check.proofs.passes.first_repeated.Given as goal

abbrev pub invariant-loop-node : goal.invariant-loop-node
invariant-loop-node l = record {
  same : length l.seen ≡ length l.fn.seen;
  all : (q : ℕ) → marked l.seen q ≡ occurrences q (take l.node l.map);
  before : (u : ℕ) → u < l.node → (j : ℕ) → j < length (chain_of l.map u) → IsNew l.map u j;
}
