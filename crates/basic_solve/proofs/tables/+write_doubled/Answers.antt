use Rattle.basic_solve.proofs.Common.{◌≡◌, ◌-◌, ◌+ℤ◌, ◌∷◌, [], ◌∙◌, ap, arith, pos, take, length, unsigned_abs, map-append, most}
use Rattle.basic_solve.proofs.Halves.{even-power}
use Rattle.basic_solve.proofs.TableSizes.{most-doubled}
use Rattle.basic_solve.proofs.NumberLists.{begun, doubled_joined, sum-last}
use Rattle.basic_solve.proofs.tables.+write_doubled.Goals as goal

pub write_moved-requires-clause-small : goal.write_moved-requires-clause-small
write_moved-requires-clause-small g t c =
    let steps = c.args.steps.now in
    let first = c.args.first.now in
    let one : most (first ∷ []) ≡ unsigned_abs first = omega arith in
    let low = most-doubled (first ∷ []) (take (length steps - 1) steps) in
    let step = ap unsigned_abs c.of-in-len1-up.ensures in
    let last = sum-last unsigned_abs steps (pos 0) c.in-len1-up.len_at_least in
    omega (arith, one, ap most c.write_doubled.ensures, low, step, last, c.requires.small)

pub returns-in-empty : goal.returns-in-empty
returns-in-empty g t c = begun _ _ _ _ _ c.in-empty.len_below c.requires.count c.of.ensures

pub returns-in-len1-up : goal.returns-in-len1-up
returns-in-len1-up g t c =
    map-append _ c.write_doubled.new.values c.write_moved.new.into
    ∙ doubled_joined ◌+ℤ◌ (c.args.first.now ∷ []) _ _ _ (pos 0) c.in-len1-up.len_at_least c.write_doubled.ensures
    (rw c.of-in-len1-up.ensures at c.write_moved.ensures)

pub of-requires-in-len1-up : goal.of-requires-in-len1-up
of-requires-in-len1-up g t c =
    omega (arith, sum-last unsigned_abs c.args.steps.now (pos 0) c.in-len1-up.len_at_least, c.requires.small)

pub write_moved-requires-clause-count : goal.write_moved-requires-clause-count
write_moved-requires-clause-count g t c =
    let halves = c.split_at_mut-low.ensures in
    omega (arith, halves.front_len, halves.back_len, c.write_doubled.auto.values, c.requires.count, even-power (length c.args.steps.now) c.in-len1-up.len_at_least)
