use Rattle.quadratization.proofs.Common.{◌≡◌, ◌<◌, ◌≤◌, ◌^◌, ◌+◌, ◌++◌, [], ℕ, List, drop, sym, ap, ◌∙◌, refl, subst, append_assoc, arith, All, All-weaker, flat_map, map, Entry, Place, weight_total, IsPair, AppendsSums, place_couplers, all_places, row_of, AreRows, places_of, node_count, places_at, IsOccurrence, pair_part, node_part, head_part, head_of}
use Rattle.quadratization.proofs.LongPlaces.{own_list, lists_size}
use Rattle.quadratization.proofs.SummedRows.{heads_part}
use Rattle.quadratization.proofs.RowForms.{rows_follow, row_is, row_pairs, row-small, row_made, summed_part, place_run, place_run-of, no_rows}
use Rattle.quadratization.proofs.rows.push_rows.Goals as goal

pub at-own-requires : goal.at-own-requires
at-own-requires c =
    let size = lists_size c.args.long.now c.args.occurrences.now c.requires.occurrences in
    omega (arith, size, c.loop-variable-test.true, c.width-variable-end.ensures.width)

pub add_places-requires-clause-indices : goal.add_places-requires-clause-indices
add_places-requires-clause-indices c =
    let t = c.args.long.now in
    let v = c.loop-variable.variable in
    let in' : v < t.width = omega (arith, c.loop-variable-test.true, c.width-variable-end.ensures.width) in
    let own = own_list t v c.args.occurrences.now c.at-own.result.now in' c.requires.occurrences c.at-own.ensures in
    subst (λ (ks : List ℕ). All (IsOccurrence t v) ks) (sym own) (place_run-of v t)

pub put_into-requires-clause-pairs : goal.put_into-requires-clause-pairs
put_into-requires-clause-pairs c =
    let t = c.args.long.now in
    let v = c.loop-variable.variable in
    let pairs = c.args.pairs.now in
    let in' : v < t.width = omega (arith, c.loop-variable-test.true, c.width-variable-end.ensures.width) in
    let own = own_list t v c.args.occurrences.now c.at-own.result.now in' c.requires.occurrences c.at-own.ensures in
    let made = row_made t pairs _ v _ _ _ _ own (c.loop-variable.invariant.pair_runs v (omega arith))
    c.loop-variable.invariant.none c.in_ok-start.ensures.row c.in_ok-add_places.ensures.row in
    let narrow = c.width-variable-end.ensures.kept.narrow in
    subst (λ (es : List Entry). All (IsPair (2 ^ 32)) es) (sym made)
    (All-weaker (IsPair t.width) (IsPair (2 ^ 32))
    (λ (e : Entry) p. record { upward = p.upward; within = omega (arith, p.within, narrow) }) (summed_part t pairs v)
    (row_pairs t pairs v c.width-variable-end.ensures.kept c.requires.pairs in'))

pub put_into-requires-clause-small : goal.put_into-requires-clause-small
put_into-requires-clause-small c =
    let t = c.args.long.now in
    let v = c.loop-variable.variable in
    let pairs = c.args.pairs.now in
    let in' : v < t.width = omega (arith, c.loop-variable-test.true, c.width-variable-end.ensures.width) in
    let own = own_list t v c.args.occurrences.now c.at-own.result.now in' c.requires.occurrences c.at-own.ensures in
    let made = row_made t pairs _ v _ _ _ _ own (c.loop-variable.invariant.pair_runs v (omega arith))
    c.loop-variable.invariant.none c.in_ok-start.ensures.row c.in_ok-add_places.ensures.row in
    subst (λ (es : List Entry). weight_total es ≤ 2 ^ 126) (sym made)
    (row-small t pairs v c.width-variable-end.ensures.kept c.requires.small)

pub loop-variable-init : goal.loop-variable-init
loop-variable-init c = record {
  rows = rw c.requires.none (no_rows (node_count c.args.long.now) _);
  none = c.empty-row.ensures;
  pairs = c.requires.ordered;
  pair_runs = λ v le. refl;
}

pub loop-variable-preserved : goal.loop-variable-preserved
loop-variable-preserved c =
    let t = c.args.long.now in
    let v = c.loop-variable.variable in
    let pairs = c.args.pairs.now in
    let in' : v < t.width = omega (arith, c.loop-variable-test.true, c.width-variable-end.ensures.width) in
    let own = own_list t v c.args.occurrences.now c.at-own.result.now in' c.requires.occurrences c.at-own.ensures in
    let places : places_at t v c.at-own.result.now ≡ places_of v (all_places t.terms t.width) = ap (λ ks. places_at t v ks) own ∙ place_run v t in
    let made = row_made t pairs _ v _ _ _ _ own (c.loop-variable.invariant.pair_runs v (omega arith))
    c.loop-variable.invariant.none c.in_ok-start.ensures.row c.in_ok-add_places.ensures.row in
    let old = c.loop-variable.couplers in
    let r = subst (λ (es : List Entry). AppendsSums es old c.put_into.new.couplers) made c.in_ok-row.ensures.put in
    let kept = c.width-variable-end.ensures.kept in
    let nodes = flat_map node_part (places_of v (all_places t.terms t.width)) in
    let all = pairs ++ flat_map place_couplers (all_places t.terms t.width) in
    let rows = rows_follow (node_count t) v all old (r.row ++ nodes) kept.narrow c.loop-variable.invariant.rows
    (row_is t pairs v old c.put_into.new.couplers kept c.requires.pairs in' r) in
    let heads : flat_map head_part c.deref.result.now ≡ nodes =
    ap (λ hs. flat_map head_part hs) (c.deref.ensures.value ∙ c.in_ok-add_places.ensures.heads)
    ∙ heads_part (places_at t v c.at-own.result.now) ∙ ap (λ ps. flat_map node_part ps) places in
    let new : c.push_heads.new.couplers ≡ old ++ (r.row ++ nodes) =
    c.in_ok-push_heads.ensures ∙ (λ k. r.appended k ++ heads k) ∙ append_assoc old r.row nodes in
    let later = c.in_ok-start.ensures.later in
    record {
      rows = subst (λ (es : List Entry). AreRows (node_count t) (v + 1) all es) (sym new) rows;
      none = c.in_ok-row.ensures.none;
      pairs = later.from;
      pair_runs = λ u le. later.same u (omega (arith, le)) ∙ c.loop-variable.invariant.pair_runs u (omega (arith, le));
    }
