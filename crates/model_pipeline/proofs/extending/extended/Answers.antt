use Rattle.model_pipeline.proofs.Common.{◌∙◌, ap, subst, IfOk-weaker, IsNormal, low_extension, terms_of}
use Rattle.model_pipeline.proofs.LeastStates.{if_ok-always, least_by}
use Rattle.model_pipeline.proofs.Standing.{admits_of, room_of}
use Rattle.model_pipeline.proofs.extending.extended.Goals as goal

pub node_count-requires : goal.node_count-requires
node_count-requires c =
    admits_of _ _ (subst IsNormal c.problem.view_is c.problem.invariant.0) c.requires.within

pub returns-clause-exact : goal.returns-clause-exact
returns-clause-exact c =
    let choices = c.args.steps.now.choices in
    IfOk-weaker c.extended.result _ _ (λ y same. same ∙ c.requires.new_nodes c.in_ok-y.y.items
    ∙ ap (low_extension choices.high (terms_of choices.normal c.args.problem.now)) c.in_ok-y.ensures.extension)
    c.extended.ensures

pub returns-clause-least : goal.returns-clause-least
returns-clause-least c =
    let choices = c.args.steps.now.choices in
    let p = c.args.problem.now in
    IfOk-weaker c.extended.result _ _ (λ y same. least_by choices p c.args.x.now y.items
    (subst IsNormal c.problem.view_is c.problem.invariant.0) c.requires.within c.requires.width
    (same ∙ c.requires.new_nodes c.in_ok-y.y.items
    ∙ ap (low_extension choices.high (terms_of choices.normal p)) c.in_ok-y.ensures.extension))
    c.extended.ensures

pub returns-clause-room : goal.returns-clause-room
returns-clause-room c =
    if_ok-always c.extended.result (λ y. room_of c.args.steps.now.choices c.args.problem.now
    (subst IsNormal c.problem.view_is c.problem.invariant.0) c.requires.within)
