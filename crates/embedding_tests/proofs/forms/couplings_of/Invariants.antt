use Rattle.std.proofs.Common.{◌≡◌, ◌≤◌, length}
use Rattle.embedding_tests.proofs.SmallForms.{AreBelow}
use Rattle.embedding_tests.proofs.forms.couplings_of.Given as goal

-- the couplings so far are below a number, and there is one for each row
abbrev pub invariant-loop-k : goal.invariant-loop-k
invariant-loop-k l =
    AreBelow l.nodes l.bound l.entries.items
    × (length l.entries.items ≡ l.k)
    × (l.k ≤ length l.rows)
