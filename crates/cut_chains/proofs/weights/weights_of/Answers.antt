use Rattle.cut_chains.proofs.Common.{◌∙◌, ap, length, arith, changed}
use Rattle.cut_chains.proofs.CutWeights.{first_small, first_couplers, all_weights}
use Rattle.cut_chains.proofs.weights.weights_of.Goals as goal

pub add_couplings-requires-clause-within : goal.add_couplings-requires-clause-within
add_couplings-requires-clause-within c =
    first_couplers c.args.source.now _ _ _ c.requires.fields
    (c.deref_mut.ensures.value ∙ c.in_ok-weights.ensures) c.requires.placed c.requires.kept

pub add_couplings-requires-clause-small : goal.add_couplings-requires-clause-small
add_couplings-requires-clause-small c =
    first_small c.args.source.now _ _ _ c.requires.fields
    (c.deref_mut.ensures.value ∙ c.in_ok-weights.ensures) c.requires.placed c.requires.kept

pub returns : goal.returns
returns c =
    let size = ap length c.deref_mut.ensures.value in
    changed c.in_ok-weights.weights.items c.add_couplings.new.weights c.in_ok-weights.weights.len
    (omega (arith, size)) (omega arith) ∙ all_weights c.args.source.now _ _ _ c.requires.fields
    (c.deref_mut.ensures.value ∙ c.in_ok-weights.ensures) c.requires.placed
    c.add_couplings.new.weights c.add_couplings.ensures.length c.add_couplings.ensures.sums
