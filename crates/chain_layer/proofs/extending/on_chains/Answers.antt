use Rattle.chain_layer.proofs.Common.{ℕ, ◌≡◌, ◌&&◌, false, length, ap, ◌∙◌, arith, list_any, range_with_len, fill_by_all, bit_at, is_in, chain_of, bit_on}
use Rattle.chain_layer.proofs.Added.{changed, any_range}
use Rattle.chain_layer.proofs.extending.on_chains.Goals as goal

pub loop-i-preserved : goal.loop-i-preserved
loop-i-preserved c =
    let chains = c.args.chains.now in
    let x = c.args.x.now in
    let i = c.loop-i.i in
    let next = c.mark_where.new.y in
    let value = c.deref_mut.ensures.value in
    let same = changed c.loop-i.y.items next c.loop-i.y.len (omega (arith, ap length value)) (omega arith) in
    let more = λ (q : ℕ). any_range (λ j. bit_at x j && is_in (chain_of chains j) q) i in
    let marked = c.mark_where.ensures in record {
      wide = cc (same, value, marked.length, c.loop-i.invariant.wide);
      bits = λ q l. cc (same, value, marked.bits q, c.list.ensures.listed, c.loop-i.invariant.bits q l, more q);
    }

pub returns : goal.returns
returns c =
    let chains = c.args.chains.now in
    let x = c.args.x.now in
    let all : c.loop-i.i ≡ length chains = omega arith in
    fill_by_all (bit_on chains x) c.loop-i.y.items c.args.qubits false c.loop-i.invariant.wide
    (λ q l. c.loop-i.invariant.bits q l
    ∙ ap (λ n. list_any (λ j. bit_at x j && is_in (chain_of chains j) q) (range_with_len 0 n)) all)
