use Rattle.std.proofs.Common.{◌+◌, ◌-◌, ◌∷◌, [], ap, arith, take, get_or, length}
use Rattle.basic_solve.proofs.Halves.{even-power}
use Rattle.basic_solve.proofs.NumberLists.{begun_places, doubled_joined, sum-last}
use Rattle.basic_solve.proofs.PlaceSizes.{doubled-room}
use Rattle.basic_solve.proofs.tables.+write_places.Goals as goal

pub write_moved_places-requires-clause-small : goal.write_moved_places-requires-clause-small
write_moved_places-requires-clause-small t c x =
    let steps = c.args.steps.now in
    let last = get_or steps (length steps - 1) 0 in
    let room = doubled-room (take (length steps - 1) steps) last 4294967296
    (omega (arith, sum-last (λ s. s) steps 0 c.in-len1-up.len_at_least, c.requires.small)) x in
    omega (arith, room, ap (λ l. get_or l x 0) c.write_places.ensures)

pub returns-in-empty : goal.returns-in-empty
returns-in-empty t c = begun_places _ _ c.in-empty.len_below c.requires.count

pub returns-in-len1-up : goal.returns-in-len1-up
returns-in-len1-up t c =
    doubled_joined ◌+◌ (0 ∷ []) _ _ _ 0 c.in-len1-up.len_at_least c.write_places.ensures
    c.write_moved_places.ensures

pub write_moved_places-requires-clause-count : goal.write_moved_places-requires-clause-count
write_moved_places-requires-clause-count t c =
    let halves = c.split_at_mut-low.ensures in
    omega (arith, halves.front_len, halves.back_len, c.write_places.auto.places, c.requires.count, even-power (length c.args.steps.now) c.in-len1-up.len_at_least)
