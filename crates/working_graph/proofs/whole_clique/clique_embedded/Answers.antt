use Rattle.working_graph.proofs.Common.{length, refl}
use Rattle.working_graph.proofs.CliqueEmbeds.{made_of_parts, made_checked, made_embeds}
use Rattle.working_graph.proofs.whole_clique.clique_embedded.Goals as goal

pub of-requires : goal.of-requires
of-requires c =
    let graph = c.args.graph.now in
    let f = c.args.ising in
    let made = c.in_ok-layout.ensures in
    made_embeds graph f _ made.kept made.fits
    (made_of_parts graph f (length f.fields) _ _ _ _ refl made.chains c.qubits.ensures made.parents
    made.places)

pub returns-clause-checked : goal.returns-clause-checked
returns-clause-checked c =
    let graph = c.args.graph.now in
    let f = c.args.ising in
    let made = c.in_ok-layout.ensures in
    rw c.of.ensures (made_checked graph f _ made.kept made.fits
    (made_of_parts graph f (length f.fields) _ _ _ _ refl made.chains c.qubits.ensures made.parents
    made.places))
