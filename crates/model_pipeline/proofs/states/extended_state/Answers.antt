use Rattle.model_pipeline.proofs.Common.{ap, sym, subst, ◌∙◌, IfOk-weaker, ExtendsTo, IsLeastTo, state_on}
use Rattle.problem_form.specs.Problems as problems
use Rattle.model_pipeline.proofs.WrittenStates.{made_extends, made_fits, made_least}
use Rattle.model_pipeline.proofs.states.extended_state.Goals as goal

pub state_of-requires : goal.state_of-requires
state_of-requires c =
    let extended = c.in_ok-x.ensures in
    made_fits c.args.steps.now.choices c.args.problem.now extended.room c.args.model.now c.args.x.now _
    c.requires.made extended.least

pub returns-clause-exact : goal.returns-clause-exact
returns-clause-exact c =
    IfOk-weaker c.state_of.result _ _
    (λ y same. same ∙ ap (state_on c.args.model.now) c.in_ok-x.ensures.exact) c.state_of.ensures

pub returns-clause-extends : goal.returns-clause-extends
returns-clause-extends c =
    let extended = c.in_ok-x.ensures in
    let p = c.args.problem.now in
    let m = c.args.model.now in
    let x = c.args.x.now in
    IfOk-weaker c.state_of.result _ _
    (λ y same. subst (ExtendsTo p.variables (problems.form_of p) m x) (sym same)
    (made_extends c.args.steps.now.choices p extended.room m x _ c.requires.made extended.least))
    c.state_of.ensures

pub returns-clause-least : goal.returns-clause-least
returns-clause-least c =
    let extended = c.in_ok-x.ensures in
    let p = c.args.problem.now in
    let m = c.args.model.now in
    let x = c.args.x.now in
    IfOk-weaker c.state_of.result _ _
    (λ y same own made. subst (IsLeastTo p.variables m x) (sym same)
    (made_least c.args.steps.now.choices p extended.room m x _ own made extended.least))
    c.state_of.ensures
