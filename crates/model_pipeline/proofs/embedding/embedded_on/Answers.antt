use Rattle.model_pipeline.proofs.Common.{IfErr-weaker, if_fault, fault_invalid, fabric_in}
use Rattle.model_pipeline.proofs.embedding.embedded_on.Goals as goal

pub returns-in-Map-clause-refused : goal.returns-in-Map-clause-refused
returns-in-Map-clause-refused c =
    let fabric = fabric_in c.args.qubits.now in
    rw c.in-Map.is (IfErr-weaker c.on_map.result _ _
    (λ e h. if_fault e _ _ (fault_invalid fabric.joined fabric.exists c.args.form c.in-Map.map) h)
    c.on_map.ensures.fault)
