use Rattle.embedding_check.proofs.Common.{length, sym, ap, ◌∙◌, err_from_is_err_and, IsingContent, IsLinked, IsReached, IsCoupled, IsPlaceOf, IsFault, ArePlaces, NamesUncoupled}
use Rattle.embedding_check.proofs.Faulty.{searchable, zip_all, all_of_places, if_fault}
use Rattle.embedding_check.proofs.checking.parents_and_places.Given.{Over}
use Rattle.embedding_check.proofs.checking.parents_and_places.Goals.{In_ok-parents}
use Rattle.embedding_check.proofs.checking.parents_and_places.Goals as goal

-- the chains are connected
linked : (g : Over) (c : In_ok-parents g) → IsLinked (g.H.Hardware.joined c.args.hardware.now)
    (g.H.Hardware.exists c.args.hardware.now) c.args.ising.now c.args.chains.now
linked g c = record {
  apart = c.requires.apart;
  connected = all_of_places c.args.chains.now (IsReached _) c.in_ok-parents.ensures.connected;
}

pub all_parents-requires-clause-chains : goal.all_parents-requires-clause-chains
all_parents-requires-clause-chains g c =
    searchable (g.H.Hardware.exists c.args.hardware.now) _ c.args.ising.now c.args.chains.now (g.met.H.Hardware.below c.args.hardware.now) c.requires.apart

pub all_places-requires-clause-chains : goal.all_places-requires-clause-chains
all_places-requires-clause-chains g c =
    searchable (g.H.Hardware.exists c.args.hardware.now) _ c.args.ising.now c.args.chains.now (g.met.H.Hardware.below c.args.hardware.now) c.requires.apart

pub all_places-requires-clause-nodes : goal.all_places-requires-clause-nodes
all_places-requires-clause-nodes g c =
    rw (← (ap (λ (x : IsingContent). length x.fields) c.ising.view_is
    ∙ sym c.requires.apart.inside.listed.listed.counted))
    c.ising.invariant.couplings

pub returns-in_err-places-clause-fault : goal.returns-in_err-places-clause-fault
returns-in_err-places-clause-fault g c =
    let couplings = ap (λ (x : IsingContent). x.couplings) c.ising.view_is in
    let linked = linked g (goal.at.returns-in_err-places-clause-fault g c).In_ok-parents in
    let p = err_from_is_err_and c.from_residual-in_err-places.result c.from_residual-in_err-places.ensures.1 in
    rw (p.1, p.2) (if_fault _ (NamesUncoupled (g.H.Hardware.joined c.args.hardware.now) c.args.ising.now.couplings c.args.chains.now) (IsFault (g.H.Hardware.joined c.args.hardware.now) (g.H.Hardware.exists c.args.hardware.now) c.args.ising.now c.args.chains.now) (λ x p. rw p.4 (linked, (p.2, p.3)))
    (rw (← couplings) c.in_err-places.ensures.fault))

pub returns-clause-laid : goal.returns-clause-laid
returns-clause-laid g c =
    let joined = g.H.Hardware.joined c.args.hardware.now in
    let couplings = ap (λ (x : IsingContent). x.couplings) c.ising.view_is in
    let linked = linked g (goal.at.returns-clause-laid g c).In_ok-parents in
    let places : ArePlaces joined c.args.chains.now c.args.ising.now.couplings c.in_ok-places.places = rw (← couplings) c.in_ok-places.ensures.places in
    record {
      valid = record {
        counted = linked.apart.inside.listed.listed.counted;
        filled = linked.apart.inside.listed.filled;
        within = linked.apart.inside.within;
        once = linked.apart.once;
        connected = linked.connected;
        coupled = zip_all (IsPlaceOf joined c.args.chains.now) (IsCoupled joined c.args.chains.now) _ _
            (λ e place p. (place, p.crossing)) places;
      };
      parents = c.in_ok-parents.ensures.parents;
      places = places;
      form = rw (← c.ising.view_is) c.ising.invariant;
    }
