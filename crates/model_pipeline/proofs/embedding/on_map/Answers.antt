use Rattle.model_pipeline.proofs.Common.{subst, Fabric, IfFault, IfErr, IfOk, IsChecked, IsValidOn}
use Rattle.embedding_check.specs.Fabrics.{IsFaultOn}
use Rattle.listed_graph.specs.laws.ListedJoins.{listed-few}
use Rattle.model_pipeline.proofs.GraphModels.{listed_is}
use Rattle.model_pipeline.proofs.embedding.on_map.Goals as goal

pub returns-in-All : goal.returns-in-All
returns-in-All c =
    let told = c.check.ensures in
    rw c.in-All.is (record { checked = told.checked; valid = told.valid; fault = told.fault })

pub returns-in-Working : goal.returns-in-Working
returns-in-Working c =
    let told = c.check-in-Working.ensures in
    rw c.in-Working.is (record { checked = told.checked; valid = told.valid; fault = told.fault })

pub returns-in-Listed : goal.returns-in-Listed
returns-in-Listed c =
    let told = c.check-in-Listed.ensures in
    let r = c.check-in-Listed.result in
    let f = c.args.form in
    let map = c.args.map.now in
    let listed = c.given.inside.listed in
    let all = listed_is listed.parts.items (listed-few _ _ _ listed.indexed) in
    rw (c.in-Listed.is, ← c.given.view_is) (record {
      checked = subst (λ (g : Fabric). IfOk r (IsChecked g.joined g.qubits f map)) all told.checked;
      valid = subst (λ (g : Fabric). IfOk r (λ _. IsValidOn g f map)) all told.valid;
      fault = subst (λ (g : Fabric). IfErr r (λ e. IfFault e (IsFaultOn g f map))) all told.fault;
    })
