use Rattle.basic_solve.proofs.Common.{◌≡◌, ℕ, ◌+◌, ◌<◌, ◌≤◌, pos, false, int_lt, map, get_or, is_one}
use Rattle.basic_solve.proofs.tables.lesser_bits.Given as goal

-- the bits up to an index say which number is the lesser, and the others are 0
abbrev pub invariant-loop-k : goal.invariant-loop-k
invariant-loop-k g l =
    ((k : ℕ) → k < l.k → is_one l.byte k
    ≡ int_lt (get_or (map g.T.Number.value l.others) (l.start + k) (pos 0))
    (get_or (map g.T.Number.value l.values) (l.start + k) (pos 0)))
    × ((k : ℕ) → l.k ≤ k → is_one l.byte k ≡ false)
