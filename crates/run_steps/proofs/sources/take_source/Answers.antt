use Rattle.run_steps.proofs.Lemmas.{arith, nat_tests, refl, Read, Source, checking_file, drawn_is_checked, file_is_checked, takes_named, takes_none, takes_same}
use Rattle.run_steps.proofs.sources.take_source.Goals as goal

pub returns-in-Drawn-clause-took : goal.returns-in-Drawn-clause-took
returns-in-Drawn-clause-took g c = grind (arith, nat_tests, takes_none, drawn_is_checked)

pub returns-in-File-clause-took : goal.returns-in-File-clause-took
returns-in-File-clause-took g c =
    let command = c.args.command.now in
    let format = c.in-File.format in
    takes_same (λ held. file_is_checked held command format _ c.in-File.is)
    (takes_named (g.F.Files.held c.args.files.now) (g.F.Files.held c.take_file.new.files) command
    Source _ c.text.result.now (λ (read : Read). read) c.take_file.result
    (λ held name. checking_file held name format command) (g.F.Files.counts c.args.files.now)
    (g.F.Files.counts c.take_file.new.files) (rw c.in-File.is refl) c.text.ensures
    c.take_file.ensures.took)
