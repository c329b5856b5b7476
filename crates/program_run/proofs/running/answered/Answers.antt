use Rattle.program_run.proofs.Lemmas.{Ok, ap, done_is_complete, command_counted}
use Rattle.std.proofs.Common.{◌∙◌}
use Rattle.command_words.specs.Commands.{by_command}
use Rattle.program_run.proofs.Headlines.{headline_delivered, writing_so}
use Rattle.program_run.proofs.running.answered.Goals as goal

pub returns-in-Command-clause-run : goal.returns-in-Command-clause-run
returns-in-Command-clause-run g c =
    let ends = c.carried_out.ensures in
    let asked = by_command c.in-Command.command in
    let status = c.carried_out.result in
    rw (c.in-Ok.is ∙ ap Ok c.in-Command.is) (record {
      usage = ends.usage;
      files = ends.files;
      read_fault = command_counted _ _ _ _ ends.usage ends.files;
      write_fault = ends.write_fault;
      outcome = ends.outcome;
      complete = λ held may done. done_is_complete held asked status (ends.outcome held may) done;
      headline = writing_so status (headline_delivered asked (g.F.Files.held c.args.files.now) status
          (g.O.Sink.taken c.args.out.now) (g.O.Sink.taken c.carried_out.new.out)) ends.answered;
      answered = ends.answered;
      written = ends.written;
    })
