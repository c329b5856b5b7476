use Rattle.model_pipeline.proofs.Common.{arith, sym, subst, IsIsingOf}
use Rattle.model_pipeline.specs.declared.made.Made.{Made}
use Rattle.model_pipeline.specs.declared.options.ModelTarget.{ModelTarget}
use Rattle.model_pipeline.specs.Compiled.{IsCompiled}
use Rattle.model_pipeline.proofs.Compiled.{compiled_on_nodes, compiled_on_qubits}
use Rattle.model_pipeline.proofs.GraphModels.{spun_as}
use Rattle.model_pipeline.proofs.compiling.compile.Goals as goal

pub form_on_qubits-requires : goal.form_on_qubits-requires
form_on_qubits-requires g c =
    let p = g.P.Held.problem c.args.problem in
    let spins = c.in_ok-spins-in-Qubits.ensures in
    let form = c.in_ok-spins-in-Qubits.spins in
    let spun : IsIsingOf p form.target form.figures =
    spun_as _ _ _ _ _ spins.kept c.in_ok-form.ensures.stands spins.image spins.figures in
    record {
      own = omega (arith, spun.enough, c.requires.own);
      total = omega (arith, spun.total);
      size = spun.size;
      scale = spun.scale_low;
      offset = spun.offset_low;
      threshold = spun.threshold_low;
    }

pub returns-in_ok-model-in-Nodes-clause-made : goal.returns-in_ok-model-in-Nodes-clause-made
returns-in_ok-model-in-Nodes-clause-made g c =
    let o = c.args.options.now in
    let p = g.P.Held.problem c.args.problem in
    let own = c.args.variables in
    let form = c.in_ok-form.form in
    let made = c.in_ok-form.ensures in
    let on = c.in_ok-model-in-Nodes.ensures in
    let result : Made = record { model = c.in_ok-model-in-Nodes.model; steps = c.in_ok-form.steps } in
    let On : ModelTarget → Type 0 =
    λ t. IsCompiled (record { choices = o.choices; unit = o.unit; target = t; keep_steps = o.keep_steps }) own p result in
    subst On (sym c.in-Nodes.is)
    (compiled_on_nodes o.choices o.unit own p o.keep_steps result c.requires.own made.kept form.target
    form.figures on.kept made.image made.stands _ on.model)

pub returns-in_ok-model-in-Qubits-clause-made : goal.returns-in_ok-model-in-Qubits-clause-made
returns-in_ok-model-in-Qubits-clause-made g c =
    let o = c.args.options.now in
    let p = g.P.Held.problem c.args.problem in
    let own = c.args.variables in
    let form = c.in_ok-form.form in
    let made = c.in_ok-form.ensures in
    let spun = c.in_ok-spins-in-Qubits.spins in
    let spins = c.in_ok-spins-in-Qubits.ensures in
    let on = c.in_ok-model-in-Qubits.ensures in
    let result : Made = record { model = c.in_ok-model-in-Qubits.model; steps = c.in_ok-form.steps } in
    let On : ModelTarget → Type 0 =
    λ t. IsCompiled (record { choices = o.choices; unit = o.unit; target = t; keep_steps = o.keep_steps }) own p result in
    subst On (sym c.in-Qubits.is)
    (compiled_on_qubits o.choices o.unit own p o.keep_steps result c.requires.own made.kept form.target
    form.figures spins.kept made.image made.stands spun.target spun.figures spins.image spins.figures _
    on.model on.stands on.can_stand)
