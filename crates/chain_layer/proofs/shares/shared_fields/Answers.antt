use Rattle.chain_layer.proofs.Common.{◌≡◌, ◌≤◌, ◌^◌, pos, to_z, of_z, fold, flat_map, length, replicate, get_or, unsigned_abs, ap, ◌∙◌, arith, w128, range_with_len, ints, weight_total, node_entries, weights-append, weights_within, weights_more, IsingContent, chain_of, all_shares, field_of, shares, added, sizes_of, shares_within}
use Rattle.chain_layer.proofs.Added.{shares_at, fields_more, fields_are_sums, changed}
use Rattle.chain_layer.proofs.shares.shared_fields.Goals as goal

pub add_shares-requires-clause-small : goal.add_shares-requires-clause-small
add_shares-requires-clause-small c =
    let i = c.loop-i.i in
    let inside = c.behind-source.inside in
    let small : weight_total (node_entries 0 c.as_slice-field-items.result.now) ≤ 2 ^ 124 =
    let same = ap (λ ws. weight_total (node_entries 0 ws)) c.as_slice-field-items.ensures in
    omega (arith, weights-append (node_entries 0 inside.fields) inside.couplings) in
    let within = weights_within c.as_slice-field-items.result.now i (pos 0) c.loop-i-test.true in
    omega (arith, ints, small, ap sizes_of c.deref_mut.ensures.value)

pub loop-i-preserved : goal.loop-i-preserved
loop-i-preserved c =
    let e = c.args.source.now in
    let hs = c.as_slice-field-items.result.now in
    let i = c.loop-i.i in
    let inside = c.behind-source.inside in
    let next = c.add_shares.new.fields in
    let small : weight_total (node_entries 0 hs) ≤ 2 ^ 124 =
    let more = ap (λ ws. weight_total (node_entries 0 ws)) c.as_slice-field-items.ensures in
    omega (arith, weights-append (node_entries 0 inside.fields) inside.couplings) in
    let back : to_z w128 (of_z w128 (get_or hs i (pos 0))) ≡ get_or hs i (pos 0) =
    omega (arith, ints, small, weights_within hs i (pos 0) c.loop-i-test.true) in
    let field : to_z w128 (of_z w128 (get_or hs i (pos 0))) ≡ field_of e i =
    back ∙ ap (λ ws. get_or ws i (pos 0)) (c.as_slice-field-items.ensures ∙ ap (λ (f : IsingContent). f.fields) (c.behind-source.view_is ∙ c.ising.ensures.form)) in
    let chain : c.list.result.now ≡ chain_of e.chains i = c.list.ensures.listed ∙ ap (λ cs. chain_of cs i) c.chains.ensures in
    let value = c.deref_mut.ensures.value in
    let same = changed c.loop-i.fields.items next c.loop-i.fields.len (omega (arith, ap length value)) (omega arith) in
    let step : next ≡ fold added c.loop-i.fields.items (shares_at e i) =
    c.add_shares.ensures.added ∙ (λ k. fold added (value k) (shares (chain k) (field k))) in
    record {
      so_far = same ∙ fields_more e (replicate e.qubits (pos 0)) c.loop-i.fields.items next i c.loop-i.invariant.so_far step;
      sizes = rw same (omega (arith, ap sizes_of value, ap unsigned_abs back, weights_more));
      wide = ap length same ∙ c.add_shares.ensures.length ∙ ap length value ∙ c.loop-i.invariant.wide;
    }

pub returns : goal.returns
returns c =
    let e = c.args.source.now in
    let listed = c.as_slice-field-items.ensures ∙ ap (λ (f : IsingContent). f.fields) (c.behind-source.view_is ∙ c.ising.ensures.form) in
    let all : c.loop-i.i ≡ length e.ising.fields = omega (arith, ap length listed) in
    c.loop-i.invariant.so_far
    ∙ ap (λ n. fold added (replicate e.qubits (pos 0)) (flat_map (shares_at e) (range_with_len 0 n))) all
    ∙ fields_are_sums e.qubits (all_shares e) (shares_within e c.ising.ensures.kept)
