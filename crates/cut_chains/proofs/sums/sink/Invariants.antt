use Rattle.cut_chains.proofs.Common.{◌≡◌, ◌∷◌, ℕ, false, length, get_or, is_in, Sinkable}
use Rattle.cut_chains.proofs.SinkSteps.{Sinks}
use Rattle.cut_chains.proofs.sums.sink.Given as goal

-- those that have not given hold what is below them, and the others what is below themselves
abbrev pub invariant-loop-i : goal.invariant-loop-i
invariant-loop-i l = record {
  sized : length l.sums ≡ length l.initial.sums;
  sinking : (t : Sinkable l.up l.initial.sums l.order)
      → Sinks l.up l.initial.sums l.order l.sums t l.sums l.i;
  others : (t : Sinkable l.up l.initial.sums l.order) (q : ℕ) → is_in (t.first ∷ t.cs) q ≡ false
      → get_or l.sums q 0 ≡ get_or l.initial.sums q 0;
}
