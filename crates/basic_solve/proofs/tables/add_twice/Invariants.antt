use Rattle.std.proofs.Common.{◌≡◌, ℕ, ◌<◌, ◌≤◌, ◌+◌, ◌*◌, ◌/◌, ◌+ℤ◌, pos, map, get_or}
use Rattle.basic_solve.proofs.tables.add_twice.Given as goal

-- the numbers up to an index are the sums, and the others are as they were
abbrev pub invariant-loop-at : goal.invariant-loop-at
invariant-loop-at g l =
    ((x : ℕ) → x < 2 * l.at → get_or (map g.T.Number.value l.values) x (pos 0)
    ≡ get_or (map g.T.Number.value l.initial.values) x (pos 0)
    +ℤ get_or (map g.T.Number.value l.from) (l.start + x / 2) (pos 0))
    × ((x : ℕ) → 2 * l.at ≤ x → get_or (map g.T.Number.value l.values) x (pos 0)
    ≡ get_or (map g.T.Number.value l.initial.values) x (pos 0))
