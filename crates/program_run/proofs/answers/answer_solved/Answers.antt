use Rattle.std.proofs.Common.{ap, ◌∙◌}
use Rattle.program_run.proofs.Common.{IfOk-weaker, name_of}
use Rattle.command_words.specs.declared.commands.Ask.TheVariants.{Solve}
use Rattle.program_run.proofs.Evaluating.{usual_end, usual_files}
use Rattle.program_run.proofs.answers.answer_solved.Goals as goal

pub returns-in-None-clause-step : goal.returns-in-None-clause-step
returns-in-None-clause-step g c = λ held may.
    usual_end held c.args.command.now.ask c.args.plan _
    (c.requires.asked ∙ ap Solve c.in-None.is) c.solved.ensures.step

pub returns-in-None-clause-files : goal.returns-in-None-clause-files
returns-in-None-clause-files g c =
    usual_files c.solved.result (name_of c.args.command.now) c.args.command.now
    (g.F.Files.counts c.args.files.now) (c.requires.asked ∙ ap Solve c.in-None.is)
    c.solved.ensures.refusal

pub returns-in-None-clause-answer : goal.returns-in-None-clause-answer
returns-in-None-clause-answer g c =
    rw (c.requires.asked ∙ ap Solve c.in-None.is)
    (IfOk-weaker c.solved.result _ _ (λ answer made held may. made) c.solved.ensures.answer)
