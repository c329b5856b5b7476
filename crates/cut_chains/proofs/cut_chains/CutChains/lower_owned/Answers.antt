use Rattle.cut_chains.proofs.Common.{unsigned_abs, ap, ◌∙◌, arith, rules, w128, to_z-of_z, CutLink, cut_keeps}
use Rattle.cut_chains.proofs.CutSizes.{cut_offset_small}
use Rattle.cut_chains.proofs.cut_chains.CutChains.lower_owned.Goals as goal

pub returns-clause-offset : goal.returns-clause-offset
returns-clause-offset c =
    to_z-of_z w128 c.in_ok-target.offset (search rules) ∙ c.in_ok-target.ensures.offset

pub returns-clause-keeps : goal.returns-clause-keeps
returns-clause-keeps c =
    let link : CutLink = record { chains = c.into_chains.result; qubits = c.qubits-qubits.result } in
    let chains = c.into_chains.ensures in
    let kept = c.in_ok-target.ensures.kept in
    rw (c.in_ok-target.ensures.image, returns-clause-offset c)
    (cut_keeps link c.args.source
    (record { chains = chains; qubits = c.qubits-qubits.ensures; kept = kept }))

pub returns-clause-offset_high : goal.returns-clause-offset_high
returns-clause-offset_high c =
    let small = cut_offset_small c.args.source c.in_ok-target.ensures.kept in
    omega (arith, ap unsigned_abs (returns-clause-offset c))
