use Rattle.program_run.proofs.Common.{IfOk-weaker, ◌≡◌, rules, energy, form_of, extension_text}
use Rattle.program_run.proofs.extend.state_text.Goals as goal

pub returns : goal.returns
returns c =
    let state = c.in_ok-state.state.items in
    IfOk-weaker c.written_extension.result _ _ (λ text told.
    let said : text.items
    ≡ extension_text state c.args.cost (energy (form_of c.args.model.now) state) =
    search (rules, told) in
    record {
      state = state;
      exact = c.in_ok-state.ensures.exact;
      extends = c.in_ok-state.ensures.extends;
      least = c.in_ok-state.ensures.least;
      said = said;
    }) c.written_extension.ensures
