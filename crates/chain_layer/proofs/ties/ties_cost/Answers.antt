use Rattle.chain_layer.proofs.Common.{◌≡◌, ◌*◌, ◌-◌, ◌+◌, length, sum_by, sym, ap, ◌∙◌, arith, range_with_len, length-map-range_with_len, chain_of, strength, node_cost, costs_same, node_at}
use Rattle.chain_layer.proofs.Added.{strength_at, sum_range, sum_within, filled_lengths}
use Rattle.chain_layer.proofs.ties.ties_cost.Goals as goal

pub list-requires : goal.list-requires
list-requires c =
    let at = strength_at c.args.source.now c.args.strengths.now c.loop-i.i c.requires.strengths c.loop-i-test.true in
    omega (arith, at.0, ap length c.chains.ensures)

pub overflow_sub-cost : goal.overflow_sub-cost
overflow_sub-cost c =
    let e = c.args.source.now in
    let i = c.loop-i.i in
    let at = strength_at e c.args.strengths.now i c.requires.strengths c.loop-i-test.true in
    let long = ap length (c.list.ensures.listed ∙ ap (λ cs. chain_of cs i) c.chains.ensures) in
    omega (arith, filled_lengths e i (node_at e c.requires.kept i at.0))

pub overflow_mul-cost : goal.overflow_mul-cost
overflow_mul-cost c =
    let e = c.args.source.now in
    let i = c.loop-i.i in
    let at = strength_at e c.args.strengths.now i c.requires.strengths c.loop-i-test.true in
    let chain : c.list.result.now ≡ chain_of e.chains i = c.list.ensures.listed ∙ ap (λ cs. chain_of cs i) c.chains.ensures in
    let next : _ ≡ node_cost e i = λ k. at.1 k * (length (chain k) - 1) in
    rw next (omega (arith, costs_same e, sum_range (node_cost e) i, sum_within (node_cost e) (i + 1) (length e.ising.fields) (omega (arith, at.0))))

pub overflow_add-cost : goal.overflow_add-cost
overflow_add-cost c =
    let e = c.args.source.now in
    let i = c.loop-i.i in
    let at = strength_at e c.args.strengths.now i c.requires.strengths c.loop-i-test.true in
    let chain : c.list.result.now ≡ chain_of e.chains i = c.list.ensures.listed ∙ ap (λ cs. chain_of cs i) c.chains.ensures in
    let next : _ ≡ node_cost e i = λ k. at.1 k * (length (chain k) - 1) in
    rw next (omega (arith, costs_same e, sum_range (node_cost e) i, sum_within (node_cost e) (i + 1) (length e.ising.fields) (omega (arith, at.0))))

pub loop-i-preserved : goal.loop-i-preserved
loop-i-preserved c =
    let e = c.args.source.now in
    let i = c.loop-i.i in
    let at = strength_at e c.args.strengths.now i c.requires.strengths c.loop-i-test.true in
    let chain : c.list.result.now ≡ chain_of e.chains i = c.list.ensures.listed ∙ ap (λ cs. chain_of cs i) c.chains.ensures in
    let next : _ ≡ node_cost e i = λ k. at.1 k * (length (chain k) - 1) in
    omega (arith, next, sum_range (node_cost e) i)

pub returns : goal.returns
returns c =
    let e = c.args.source.now in
    let wide : length c.args.strengths.now ≡ length e.ising.fields =
    ap length c.requires.strengths ∙ length-map-range_with_len (strength e) 0 (length e.ising.fields) in
    let all : c.loop-i.i ≡ length e.ising.fields = omega (arith, wide) in
    c.loop-i.invariant ∙ ap (λ n. sum_by (node_cost e) (range_with_len 0 n)) all
    ∙ sym (costs_same e)
