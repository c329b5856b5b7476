use Rattle.basic_solve.proofs.Common.{◌≡◌, ℕ, ◌*◌, ◌<◌, pos, int_lt, length, map, get_or, bit_of}
use Rattle.basic_solve.proofs.tables.write_choices.Given as goal

-- the bytes so far say which number is the lesser
abbrev pub invariant-loop-at : goal.invariant-loop-at
invariant-loop-at g l =
    (length l.bytes.items ≡ l.at)
    × ((x : ℕ) → x < 8 * l.at → x < length l.values → bit_of l.bytes.items x
    ≡ int_lt (get_or (map g.T.Number.value l.others) x (pos 0))
    (get_or (map g.T.Number.value l.values) x (pos 0)))
