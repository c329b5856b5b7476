use Rattle.embedding_check.proofs.Common.{◌≡◌, ℕ, ◌<◌, ◌⊎◌, true, length, get_or, is_in, owner_of}
use Rattle.embedding_check.proofs.owners.own.Given as goal

abbrev pub invariant-loop-k : goal.invariant-loop-k
invariant-loop-k l = record {
  len : length l.owners ≡ length l.fn.owners;
  given : (i : ℕ) → i < l.k → owner_of l.owners (get_or l.chain i 0) ≡ l.owner;
  others : (b : ℕ) → (is_in l.chain b ≡ true) ⊎ (owner_of l.owners b ≡ owner_of l.fn.owners b);
}
