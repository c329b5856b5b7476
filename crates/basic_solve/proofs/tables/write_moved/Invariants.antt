use Rattle.std.proofs.Common.{◌≡◌, ℕ, ◌<◌, ◌≤◌, ◌+ℤ◌, pos, map, get_or}
use Rattle.basic_solve.proofs.tables.write_moved.Given as goal

-- the numbers up to an index are written
abbrev pub invariant-loop-at : goal.invariant-loop-at
invariant-loop-at g l =
    ((x : ℕ) → x < l.at → get_or (map g.T.Number.value l.into) x (pos 0)
    ≡ get_or (map g.T.Number.value l.from) x (pos 0) +ℤ g.T.Number.value l.step)
    × ((x : ℕ) → l.at ≤ x → get_or (map g.T.Number.value l.into) x (pos 0)
    ≡ get_or (map g.T.Number.value l.initial.into) x (pos 0))
