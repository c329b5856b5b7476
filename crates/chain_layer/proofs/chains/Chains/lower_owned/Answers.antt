use Rattle.chain_layer.proofs.Common.{unsigned_abs, ap, ◌∙◌, arith, rules, w128, to_z-of_z, ising_total, ising_size, ChainLink, Fits, chains_keep}
use Rattle.chain_layer.proofs.Sizes.{offset_small, total_grows, size_grows}
use Rattle.chain_layer.proofs.chains.Chains.lower_owned.Goals as goal

pub returns-clause-offset : goal.returns-clause-offset
returns-clause-offset c =
    to_z-of_z w128 c.in_ok-target.offset (search rules) ∙ c.in_ok-target.ensures.offset

pub returns-clause-keeps : goal.returns-clause-keeps
returns-clause-keeps c =
    let link : ChainLink = record { chains = c.into_chains.result; qubits = c.qubits-qubits.result } in
    let fits : Fits link c.args.source = record {
      chains = c.into_chains.ensures;
      qubits = c.qubits-qubits.ensures;
      kept = c.in_ok-target.ensures.kept;
    } in
    rw (c.in_ok-target.ensures.image, returns-clause-offset c)
    (chains_keep link c.args.source fits)

pub returns-clause-offset_high : goal.returns-clause-offset_high
returns-clause-offset_high c =
    omega (arith, ap unsigned_abs (returns-clause-offset c), offset_small c.args.source c.in_ok-target.ensures.kept)

pub returns-clause-total : goal.returns-clause-total
returns-clause-total c =
    omega (arith, ap ising_total c.in_ok-target.ensures.image, total_grows c.args.source c.in_ok-target.ensures.kept)

pub returns-clause-size : goal.returns-clause-size
returns-clause-size c =
    omega (arith, ap ising_size c.in_ok-target.ensures.image, size_grows c.args.source c.in_ok-target.ensures.kept)
