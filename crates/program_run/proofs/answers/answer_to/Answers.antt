use Rattle.program_run.proofs.Lemmas.{arith, nat_tests, model_files, last_files, made_refused, made_then, may_first, may_next, IfOk-weaker, returned, plan_ends, plan_refused}
use Rattle.program_run.proofs.Answering.{made_answers}
use Rattle.program_run.proofs.answers.answer_to.Goals as goal

pub returns-in_err-plan-clause-step : goal.returns-in_err-plan-clause-step
returns-in_err-plan-clause-step g c = grind (arith, nat_tests, returned, plan_refused, may_first)

pub returns-in_err-plan-clause-files : goal.returns-in_err-plan-clause-files
returns-in_err-plan-clause-files g c = grind (arith, nat_tests, returned, made_refused)

pub returns-clause-step : goal.returns-clause-step
returns-clause-step g c = λ held may.
    let told = g.F.Files.held c.args.files.now in
    let made = model_files c.args.command.now in
    let last = last_files c.args.command.now in
    let took = c.in_ok-plan.ensures.took in
    plan_ends _ _ _ _ (took.step held (may_first told made last held may))
    (c.answer_by.ensures.step held
    (may_next told (g.F.Files.held c.take_plan.new.files) made last held took.held may))

pub returns-clause-files : goal.returns-clause-files
returns-clause-files g c = grind (arith, nat_tests, made_then)

pub returns-clause-answer : goal.returns-clause-answer
returns-clause-answer g c =
    let told = g.F.Files.held c.args.files.now in
    let made = model_files c.args.command.now in
    let last = last_files c.args.command.now in
    let took = c.in_ok-plan.ensures.took in
    IfOk-weaker c.answer_by.result _ _ (λ answer its held may. made_answers _ _ _ _
    (took.step held (may_first told made last held may)) c.in_ok-plan.ensures.kept
    c.in_ok-plan.ensures.enough (its held
    (may_next told (g.F.Files.held c.take_plan.new.files) made last held took.held may)))
    c.answer_by.ensures.answer
