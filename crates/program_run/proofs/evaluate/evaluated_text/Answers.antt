use Rattle.program_run.proofs.Common.{length, ap, ◌∙◌, decoding_of, states_of, judgement_by}
use Rattle.program_run.proofs.Scored.{best_wide, scored_by}
use Rattle.program_run.proofs.evaluate.evaluated_text.Goals as goal

pub decoded-requires : goal.decoded-requires
decoded-requires c =
    let evaluation = c.in_ok-evaluation.evaluation in
    let m = c.args.model.now in
    ap length c.deref.ensures.value
    ∙ best_wide (judgement_by c.args.read.now m) m.nodes c.args.text.now
    (evaluation.best.line, evaluation.state.items) c.in_ok-evaluation.ensures.evaluated.first

pub returns-clause-told : goal.returns-clause-told
returns-clause-told c =
    let read = c.args.read.now in
    let m = c.args.model.now in
    let evaluation = c.in_ok-evaluation.evaluation in
    scored_by (judgement_by read m) m read.names (states_of m.nodes c.args.text.now)
    evaluation.scores evaluation.best evaluation.state.items c.deref-2.result.now
    c.in_ok-new.field-0 c.in_ok-evaluation.ensures.evaluated
    (c.deref-2.ensures.value ∙ c.in_ok-x.ensures.exact
    ∙ ap (decoding_of m).decoded c.deref.ensures.value)
    c.in_ok-new.ensures
