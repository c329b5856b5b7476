use Rattle.std.proofs.Common.{◌≡◌, ℕ, ◌<◌, ◌+◌, get_or}
use Rattle.basic_solve.proofs.tables.write_moved_places.Given as goal

-- the places up to an index are written
abbrev pub invariant-loop-at : goal.invariant-loop-at
invariant-loop-at l = (x : ℕ) → x < l.at → get_or l.into x 0 ≡ get_or l.from x 0 + l.step
