use Rattle.chain_layer.proofs.Common.{◌≡◌, sym, subst, ◌∙◌, rules, IsEmbedding}
use Rattle.chain_layer.proofs.copying.copied.Goals as goal

pub of-requires : goal.of-requires
of-requires c =
    let ising = sym (c.in_ok-ising.ensures ∙ c.ising.ensures.form) in
    let chains = sym (c.in_ok-chains.ensures ∙ c.chains.ensures) in
    let qubits = sym c.qubits.ensures in
    let parents = sym (c.in_ok-parents.ensures ∙ c.parents.ensures) in
    let places : c.args.source.now.places ≡ c.new-places.result = search rules in
    subst IsEmbedding (λ i. record { ising = ising i; chains = chains i; qubits = qubits i; parents = parents i; places = places i })
    c.ising.ensures.kept
