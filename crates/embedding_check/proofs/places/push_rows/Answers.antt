use Rattle.embedding_check.proofs.Common.{NoCoupler, ◌≡◌, ◌<◌, ◌+◌, ℕ, List, ◌++◌, length, All, sym, ap, subst, ◌∙◌, arith, err_from_is_err_and, Entry, rows_of, IsCoupler, IsCoupled, IsPlaceOf, IsUncoupled, rows_before, rows_more, rows_all}
use Rattle.embedding_check.proofs.Faulty.{if_fault, zip_all}
use Rattle.embedding_check.proofs.PlacedRows.{all_in_row, some_in_row, uncoupled_in_row}
use Rattle.embedding_check.proofs.places.push_rows.Goals as goal

pub note_row-noting-requires : goal.note_row-noting-requires
note_row-noting-requires g c = record {
  nodes = rw c.row-row.ensures (all_in_row (IsCoupler _) c.args.couplings.now c.loop-k.k (omega arith) c.requires.nodes);
  some = rw c.row-row.ensures (some_in_row c.args.couplings.now c.loop-k.k (omega arith));
  within = c.requires.chains.within;
  owners = c.requires.owners;
  all = c.requires.all;
  len = c.loop-k.invariant.table;
}

pub push_places-requires : goal.push_places-requires
push_places-requires g c = record {
  nodes = rw c.row-row.ensures (all_in_row (IsCoupler _) c.args.couplings.now c.loop-k.k (omega arith) c.requires.nodes);
  within = c.requires.chains.within;
  len = c.requires.sorted.len;
  sorted = c.requires.sorted.each;
  all = c.note_row-noting.ensures.len;
  noted = c.note_row-noting.ensures.noted;
}

pub loop-k-preserved : goal.loop-k-preserved
loop-k-preserved g c =
    let joined = g.H.Hardware.joined c.args.hardware.now in
    let couplings = c.args.couplings.now in
    let k = c.loop-k.k in
    record {
      table = c.note_row-noting.ensures.len;
      placed =
          rw (← (ap (λ (row : List Entry). rows_before couplings k ++ row) c.row-row.ensures
          ∙ sym (rows_more couplings k (omega arith))))
          (c.in_ok-push_places.ensures.places (rows_before couplings k) c.loop-k.invariant.placed);
    }

pub returns-in_err-push_places-clause-fault : goal.returns-in_err-push_places-clause-fault
returns-in_err-push_places-clause-fault g c =
    let joined = g.H.Hardware.joined c.args.hardware.now in
    let chains = c.args.chains.now in
    let couplings = c.args.couplings.now in
    let k = c.loop-k.k in
    let below : k < length (rows_of couplings) = omega arith in
    let coupled : All (IsCoupled joined chains) (rows_before couplings k) =
    zip_all (IsPlaceOf joined chains) (IsCoupled joined chains) (rows_before couplings k) c.loop-k.places.items
    (λ e place p. (place, p.crossing)) c.loop-k.invariant.placed in
    let p = err_from_is_err_and c.from_residual.result c.from_residual.ensures.1 in
    rw (p.1, p.2) (if_fault c.in_err-push_places.field-0.0 _
    (λ f. (u : ℕ) × (v : ℕ) × (n : ℕ) × IsUncoupled joined couplings chains u v n × (f ≡ NoCoupler u v))
    (λ f h. (
      h.0,
      h.1,
      length (rows_before couplings k) + h.2,
      uncoupled_in_row joined chains couplings k h.0 h.1 h.2 below coupled
          (subst (λ (es : List Entry). IsUncoupled joined es chains h.0 h.1 h.2) c.row-row.ensures h.3),
      h.4,
    )) c.in_err-push_places.ensures.fault)

pub returns-clause-places : goal.returns-clause-places
returns-clause-places g c =
    let R = IsPlaceOf (g.H.Hardware.joined c.args.hardware.now) c.args.chains.now in
    rw (← (rows_all c.args.couplings.now c.loop-k.k (omega arith))) c.loop-k.invariant.placed
