use Rattle.working_graph.proofs.Common.{◌≡◌, ◌<◌, ◌≤◌, sym, append-nil, take_all, [], ◌∷◌, pos, take, map, length, get_or, ap, arith, append_assoc, map-append, take_more, Entry, IsCoupler, Spot, clique_places, clique_place, cells_rise}
use Rattle.working_graph.proofs.clique_places.push_places.Goals as goal

pub spot_of-first-requires : goal.spot_of-first-requires
spot_of-first-requires c =
    let zero : Entry = record { first = 0; second = 0; weight = pos 0 } in
    let coupler : IsCoupler (clique_places c.args.graph.now) (get_or c.args.row.now 0 zero) =
    c.requires.nodes 0 zero c.requires.some in
    omega (arith, coupler.upward, coupler.within, c.first.ensures 0 zero c.requires.some)

pub spot_near-second-requires : goal.spot_near-second-requires
spot_near-second-requires c =
    let zero : Entry = record { first = 0; second = 0; weight = pos 0 } in
    let below : c.loop-k.k < length c.args.row.now = omega (arith, c.loop-k-test.true, c.len-k-end.ensures) in
    let coupler = c.requires.nodes c.loop-k.k zero below in
    record {
      node = omega (arith, coupler.within, c.second.ensures zero);
      cell = c.loop-k.invariant.cell;
    }

pub place_of_spots-requires : goal.place_of_spots-requires
place_of_spots-requires c =
    let zero : Entry = record { first = 0; second = 0; weight = pos 0 } in
    let below : c.loop-k.k < length c.args.row.now = omega (arith, c.loop-k-test.true, c.len-k-end.ensures) in
    let coupler = c.requires.nodes c.loop-k.k zero below in
    let first = c.spot_of-first.ensures in
    let second = c.spot_near-second.ensures in
    let upward : c.first.result < c.second.result =
    omega (arith, coupler.upward, c.first.ensures c.loop-k.k zero below, c.second.ensures zero) in
    let rise = cells_rise c.args.graph.now c.first.result c.second.result (omega (arith, upward)) in
    record {
      order = omega (arith, rise, ap (λ (s : Spot). s.cell) first.spot, ap (λ (s : Spot). s.cell) second.spot);
      cell = second.cell;
      at = first.at;
      other = second.at;
    }

pub loop-k-preserved : goal.loop-k-preserved
loop-k-preserved c =
    let graph = c.args.graph.now in
    let row = c.args.row.now in
    let k = c.loop-k.k in
    let front = c.args.places.now.items in
    let zero : Entry = record { first = 0; second = 0; weight = pos 0 } in
    let below : k < length row = omega (arith, c.loop-k-test.true, c.len-k-end.ensures) in
    let entry = get_or row k zero in
    let place : c.place_of_spots.result ≡ clique_place graph entry =
    cc (
      c.place_of_spots.ensures,
      c.spot_of-first.ensures.spot,
      c.spot_near-second.ensures.spot,
      c.first.ensures k zero below,
      c.second.ensures zero,
    ) in
    let join = append_assoc front (map (clique_place graph) (take k row)) (clique_place graph entry ∷ []) in
    let all = map-append (clique_place graph) (take k row) (entry ∷ []) in
    record {
      places = cc (c.in_ok-push.ensures.items, c.loop-k.invariant.places, take_more row k zero below);
      cell = c.spot_near-second.ensures.cell;
    }

pub returns : goal.returns
returns c =
    let all : length c.args.row.now ≤ c.loop-k.k = omega (arith, c.loop-k-test.false, c.len-k-end.ensures) in
    rw (← (take_all c.loop-k.k c.args.row.now all)) c.loop-k.invariant.places

pub loop-k-init : goal.loop-k-init
loop-k-init c = record { places = sym (append-nil _); cell = c.spot_of-first.ensures.cell }
