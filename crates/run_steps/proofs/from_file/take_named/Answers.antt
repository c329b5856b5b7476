use Rattle.run_steps.proofs.Lemmas.{takes_named}
use Rattle.run_steps.proofs.from_file.take_named.Goals as goal

pub returns-clause-took : goal.returns-clause-took
returns-clause-took g c =
    takes_named (g.F.Files.held c.args.files.now) (g.F.Files.held c.take.new.files)
    c.args.command.now g.T.FromFile.which c.args.name.now c.text.result.now g.T.FromFile.view
    c.take.result (g.T.FromFile.steps c.args.context) (g.F.Files.counts c.args.files.now)
    (g.F.Files.counts c.take.new.files) c.requires c.text.ensures c.take.ensures.took
