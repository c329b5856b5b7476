use Rattle.run_steps.proofs.Lemmas.{State, Global, Vec, taking, last_files, name_of, ℕ, has_states, takes_alone}
use Rattle.run_steps.proofs.states.take_states.Goals as goal

pub returns-clause-took : goal.returns-clause-took
returns-clause-took g c =
    let command = c.args.command.now in
    let has = has_states command c.args.name.now c.requires in
    takes_alone (g.F.Files.held c.args.files.now) (g.F.Files.held c.take_bytes.new.files)
    (name_of command) (last_files command) State c.args.name.now c.text.result.now
    (λ (bytes : Vec ℕ Global). bytes.items) c.take_bytes.result (λ held name. taking held State name)
    (g.F.Files.counts c.args.files.now) (g.F.Files.counts c.take_bytes.new.files) has.0 has.1
    c.text.ensures c.take_bytes.ensures.took
