use Rattle.embedding_check.proofs.Common.{◌≡◌, ℕ, ◌<◌, length, get_or, Mark}
use Rattle.embedding_check.proofs.noted.forget.Given as goal

-- the marks so far are of no turn
abbrev pub invariant-loop-k : goal.invariant-loop-k
invariant-loop-k l = record {
  len : length l.marks.items ≡ length l.fn.marks.items;
  none : (i : ℕ) (d : Mark) → i < l.k → (get_or l.marks.items i d).turn ≡ 0;
}
