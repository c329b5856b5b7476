use Rattle.cut_chains.proofs.Common.{◌≡◌, false, replicate, rules, length, ap, ◌∙◌, length-map-range_with_len, weight_of}
use Rattle.cut_chains.proofs.CutWeights.{all_held, none_seen}
use Rattle.cut_chains.proofs.image.add_ties.Goals as goal

pub tie_chains-requires-clause-sized : goal.tie_chains-requires-clause-sized
tie_chains-requires-clause-sized c =
    let e = c.args.source.now in
    ap length c.requires.sums ∙ length-map-range_with_len (weight_of e) 0 e.qubits

pub tie_chains-requires-clause-held : goal.tie_chains-requires-clause-held
tie_chains-requires-clause-held c = all_held c.args.source.now c.requires.kept _ c.requires.sums

pub tie_chains-requires-clause-unseen : goal.tie_chains-requires-clause-unseen
tie_chains-requires-clause-unseen c =
    let none : c.in_ok-seen.seen.items ≡ replicate c.args.source.now.qubits false = search rules in
    none_seen c.args.source.now c.requires.kept _ (c.deref_mut-2.ensures.value ∙ none)
