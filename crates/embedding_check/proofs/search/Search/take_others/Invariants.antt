use Rattle.embedding_check.proofs.Common.{◌≡◌, ℕ, ◌≤◌, ◌<◌, length, qubit_at, IsDone, IsOneOf, Takes}
use Rattle.embedding_check.proofs.search.Search.take_others.Given as goal

-- the others so far either wait no longer or are not joined
abbrev pub invariant-loop-k : goal.invariant-loop-k
invariant-loop-k g l = record {
  takes : Takes (g.H.Hardware.joined l.hardware) l.sorted l.qubit l.fn.self l.self;
  done : (i : ℕ) → i < length l.sorted
      → IsOneOf (record { start = (g.H.Hardware.others l.hardware l.qubit).start; end = l.k })
      (g.H.Hardware.other l.hardware l.qubit) (qubit_at l.sorted i)
      → IsDone (g.H.Hardware.joined l.hardware) l.sorted l.qubit l.self i;
}
