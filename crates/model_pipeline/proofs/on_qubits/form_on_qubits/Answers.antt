use Rattle.std.proofs.lemmas.Result.{err_from_is_err_and}
use Rattle.model_pipeline.proofs.Common.{size_fits, ◌+◌, ◌*◌, ◌^◌, ◌≤◌, ◌∙◌, length, ap, arith, rules, subst, sym, FitsSigned, w128, IsIsing, ising_total, chains_of, fabric_in, graph_in, qubit_model, IsQubitModelOf}
use Rattle.bits_model.specs.declared.output.Kind.TheVariants as kinds
use Rattle.model_pipeline.proofs.QubitModels.{model_stands, moved_by_ties}
use Rattle.model_pipeline.proofs.on_qubits.form_on_qubits.Goals as goal
use Rattle.model_pipeline.proofs.GraphModels.{numbers_in, sized_in, site_valid, joined_both_ways}

pub returns : goal.returns
returns c =
    let f = c.args.form in
    let n = c.args.figures in
    let own = c.args.own in
    let unit = c.args.unit in
    let site = c.args.site.now in
    let e = c.in_ok-embedded.embedded in
    let graph = graph_in site.qubits in
    let fabric = fabric_in site.qubits in
    let map = chains_of site.qubits site.chain_source (length f.fields) in
    let embedded = c.in_ok-embedded.ensures in
    let made = c.in_ok-embedded_model.ensures in
    let kept : IsIsing f = subst IsIsing embedded.checked.ising made.kept.ising in
    let fits : FitsSigned w128 n.scale = search rules in
    let total : (ising_total e.ising + 1) * 2 ^ 21 ≤ 2 ^ 124 =
    omega (arith, ap ising_total embedded.checked.ising, c.requires.total) in
    let same = made.model
    ∙ ap (λ g. qubit_model unit site.ties e own n (kinds.Qubits g)) c.graph_in-graph.ensures in
    record {
      model = (e, embedded.checked, same);
      stands = subst (λ m. IsQubitModelOf f n own unit site.ties graph fabric map m) (sym same)
          (model_stands f n own site.ties graph fabric map e made.kept (sized_in site.qubits)
          (numbers_in site.qubits) (joined_both_ways site.qubits) embedded.checked
          (site_valid site.qubits site.chain_source f kept embedded.can_stand) c.requires.own
          (size_fits n.scale fits) c.requires.scale unit total
          (moved_by_ties site.ties n e made.kept total c.requires.offset c.requires.threshold));
      can_stand = embedded.can_stand;
      fault = tt;
      refused = tt;
    }

pub returns-in_err-embedded : goal.returns-in_err-embedded
returns-in_err-embedded c =
    let p = err_from_is_err_and c.from_residual.result c.from_residual.ensures.1 in
    let embedded = c.in_err-embedded.ensures in
    rw (p.1, p.2) (record { model = tt; stands = tt; can_stand = tt; fault = embedded.fault; refused = embedded.refused })
