use Rattle.embedding_check.proofs.Common.{◌≡◌, ◌<◌, inl, inr, length, get_or, refl, arith, cases_lt, take_all, Entry, IsCoupler, IsPlaceOf, get_or_default}
use Rattle.embedding_check.proofs.PlacedRows.{placed_next, no_entry}
use Rattle.embedding_check.proofs.places.push_places.Goals as goal

pub place_of-requires : goal.place_of-requires
place_of-requires g c =
    let row = c.args.row.now in
    let k = c.loop-k.k in
    let below : k < length row = omega arith in
    let coupler : IsCoupler (length c.args.chains.now) (get_or row k no_entry) = c.requires.nodes k no_entry below in
    let first = c.first-first.ensures k no_entry below in
    let second = c.second-second.ensures no_entry in
    record {
      upward = omega (arith, coupler.upward, first, second);
      node = omega (arith, coupler.within, second);
      within = c.requires.within;
      len = c.requires.len;
      sorted = c.requires.sorted;
      all = c.requires.all;
      noted = λ yes. rw (← first) (c.requires.noted yes k no_entry below);
    }

pub loop-k-preserved : goal.loop-k-preserved
loop-k-preserved g c =
    let joined = g.H.Hardware.joined c.args.hardware.now in
    let chains = c.args.chains.now in
    let row = c.args.row.now in
    let k = c.loop-k.k in
    let p = c.in-Some.place in
    let R = IsPlaceOf joined chains in
    let entry = get_or row k no_entry in
    let below : k < length row = omega arith in
    let here : R entry p = rw (c.first-first.ensures k no_entry below, c.second-second.ensures no_entry)
    (record { crossing = c.in-Some.ensures.0; least = c.in-Some.ensures.1 }) in
    record {
      placed = λ before all.
          placed_next R before row k no_entry c.loop-k.places.items c.push.new.self.items p below
          c.in_ok-push-in-Some.ensures.items here (c.loop-k.invariant.placed before all);
      coupled = λ i d low. elim (cases_lt i k) [
        | inl less ↦ c.loop-k.invariant.coupled i d less
        | inr past ↦
            let last : i ≡ k = omega (arith, low, past) in
            rw (last, ← get_or_default row k no_entry d below) (p, here.crossing)
      ];
    }

pub returns-in-None-clause-fault : goal.returns-in-None-clause-fault
returns-in-None-clause-fault g c =
    let row = c.args.row.now in
    let k = c.loop-k.k in
    let below : k < length row = omega arith in
    let first : (d : Entry) → (get_or row k d).first ≡ c.first-first.result = λ d. c.first-first.ensures k d below in
    let second : (d : Entry) → (get_or row k d).second ≡ c.second-second.result = c.second-second.ensures in (
      c.first-first.result,
      c.second-second.result,
      k,
      record {
        below = below;
        bad = λ d coupled.
            let pair = rw (first d, second d) at coupled in c.in-None.ensures pair.0 pair.1;
        before = c.loop-k.invariant.coupled;
        first = first;
        second = second;
      },
      refl,
    )

pub returns : goal.returns
returns g c = record {
  places = λ before all.
      rw (← (take_all c.loop-k.k c.args.row.now (omega arith))) (c.loop-k.invariant.placed before all);
  fault = tt;
}
