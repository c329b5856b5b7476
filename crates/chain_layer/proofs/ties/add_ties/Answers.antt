use Rattle.chain_layer.proofs.Common.{◌≡◌, ◌++◌, length, drop, flat_map, ap, ◌∙◌, arith, range_with_len, length_all_zip, length-map-range_with_len, chain_of, strength, ties, node_at}
use Rattle.chain_layer.proofs.Ordered.{ties_at}
use Rattle.chain_layer.proofs.Sizes.{strength-le}
use Rattle.chain_layer.proofs.Added.{strength_at, ties_more_nodes, filled_lengths}
use Rattle.chain_layer.proofs.ties.add_ties.Goals as goal

pub list-requires : goal.list-requires
list-requires c =
    let at = strength_at c.args.source.now c.args.strengths.now c.loop-i.i c.requires.strengths c.loop-i-test.true in
    omega (arith, at.0, ap length c.chains.ensures)

pub list-requires-in-loop-i : goal.list-requires-in-loop-i
list-requires-in-loop-i c =
    let at = strength_at c.args.source.now c.args.strengths.now c.loop-i.i c.requires.strengths c.loop-i-test.true in
    omega (arith, at.0, length_all_zip _ _ _ c.requires.kept.trees, ap length c.parents.ensures)

pub push_ties-requires-clause-matched : goal.push_ties-requires-clause-matched
push_ties-requires-clause-matched c =
    let e = c.args.source.now in
    let i = c.loop-i.i in
    let at = strength_at e c.args.strengths.now i c.requires.strengths c.loop-i-test.true in
    let long = ap length (c.list.ensures.listed ∙ ap (λ cs. chain_of cs i) c.chains.ensures) in
    let same = ap length (c.list-in-loop-i.ensures.listed ∙ ap (λ cs. chain_of cs i) c.parents.ensures) in
    omega (arith, filled_lengths e i (node_at e c.requires.kept i at.0))

pub push_ties-requires-clause-small : goal.push_ties-requires-clause-small
push_ties-requires-clause-small c =
    let e = c.args.source.now in
    let at = strength_at e c.args.strengths.now c.loop-i.i c.requires.strengths c.loop-i-test.true in
    omega (arith, at.1, strength-le e c.loop-i.i at.0)

pub loop-i-preserved : goal.loop-i-preserved
loop-i-preserved c =
    let e = c.args.source.now in
    let i = c.loop-i.i in
    let at = strength_at e c.args.strengths.now i c.requires.strengths c.loop-i-test.true in
    let chain = c.list.ensures.listed ∙ ap (λ cs. chain_of cs i) c.chains.ensures in
    let parents = c.list-in-loop-i.ensures.listed ∙ ap (λ cs. chain_of cs i) c.parents.ensures in
    ties_more_nodes e c.args.made.now c.loop-i.made c.push_ties.new.couplings i
    c.loop-i.invariant (c.in_ok-push_ties.ensures
    ∙ (λ k. c.loop-i.made ++ ties (λ _. at.1 k) (drop 1 (chain k)) (parents k)))

pub returns : goal.returns
returns c =
    let e = c.args.source.now in
    let wide : length c.args.strengths.now ≡ length e.ising.fields =
    ap length c.requires.strengths ∙ length-map-range_with_len (strength e) 0 (length e.ising.fields) in
    let all : c.loop-i.i ≡ length e.ising.fields = omega (arith, wide) in
    c.loop-i.invariant ∙ ap (λ n. c.args.made.now ++ flat_map (ties_at e) (range_with_len 0 n)) all
