use Rattle.chain_layer.proofs.Common.{◌≡◌, ◌∙◌, ap, length, map, ◌+◌, unsigned_abs, arith, node_entries, weights-append, IsingContent}
use Rattle.chain_layer.proofs.Added.{first_strength, changed, all_strengths}
use Rattle.chain_layer.proofs.strengths.strengths.Goals as goal

pub add_couplings-requires-clause-small : goal.add_couplings-requires-clause-small
add_couplings-requires-clause-small c i =
    let hs = c.form.inside.fields in
    let xs = c.deref_mut.ensures.value ∙ c.in_ok-strengths.ensures ∙ ap (λ fs. map (λ h. unsigned_abs h + 1) fs) c.as_slice.ensures in
    let weights_append = weights-append (node_entries 0 hs) c.form.inside.couplings in
    omega (arith, first_strength hs c.deref_mut.result.now i xs)

pub returns-clause-strengths : goal.returns-clause-strengths
returns-clause-strengths c =
    let same : _ ≡ c.args.source.now.ising = c.form.view_is ∙ c.ising-form.ensures.form in
    let fields = c.as_slice.ensures ∙ ap (λ (f : IsingContent). f.fields) same in
    let couplings = ap (λ (f : IsingContent). f.couplings) same in
    let xs = c.deref_mut.ensures.value ∙ c.in_ok-strengths.ensures ∙ ap (λ fs. map (λ h. unsigned_abs h + 1) fs) fields in
    let size = ap length c.deref_mut.ensures.value in
    changed c.in_ok-strengths.strengths.items c.add_couplings.new.strengths c.in_ok-strengths.strengths.len
    (omega (arith, size)) (omega arith)
    ∙ all_strengths c.args.source.now c.deref_mut.result.now c.add_couplings.new.strengths c.form.inside.couplings xs couplings
    c.add_couplings.ensures.length c.add_couplings.ensures.sums
