use Rattle.embedding_check.proofs.Common.{◌≡◌, ℕ, ◌-◌, ◌<◌, ◌≤◌, true, IsFaced, Notes, IsJoin, AreNotedTo}
use Rattle.embedding_check.proofs.noted.Noted.note_span.Given as goal

-- the joins to the numbers so far are noted
abbrev pub invariant-runs : goal.invariant-runs
invariant-runs g l = record {
  from : l.fn.span.start ≤ l.b;
  noted : Notes (λ v p. (b : ℕ) × IsFaced l.fn.span b × (b < l.b)
      × IsJoin (g.H.Hardware.joined l.hardware) l.owners l.node l.a b v p) l.fn.self l.self;
  done : l.all ≡ true
      → AreNotedTo l.self l.owners l.node l.a (λ c. IsFaced l.fn.span c × (c < l.b));
}

abbrev pub decreases-runs : goal.decreases-runs
decreases-runs g l = l.end - l.b
