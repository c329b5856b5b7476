use Rattle.program_run.proofs.Lemmas.{returned, ◌≡◌, ℕ, [], Ok, Err, Some, ap, sym, subst, last_files, name_of, states_of, Last, Refuses, Several, Steps, last_step, read_wanting, IsScored, IsTold, judgement_by, NoState, last_gives, last_refuses, none_read, scan_finds_none, scan_gives, scan_refuses, scans, scored_some}
use Rattle.program_run.proofs.evaluate.states_evaluated.Goals as goal

pub returns-in_err-bytes-clause-step : goal.returns-in_err-bytes-clause-step
returns-in_err-bytes-clause-step g c = λ held may.
    let command = c.args.command.now in
    let plan = c.args.plan.now in
    let m = c.args.model.now in
    let name = c.args.name.now in
    let status = c.in_err-bytes.field-0.0 in
    rw (returned c.from_residual.ensures.1) (last_refuses status plan
    (last_step held command.ask plan.read.variables) m c.requires.modelled
    c.in_err-bytes.ensures.refusal
    (subst (λ (steps : Steps Last). Refuses status steps)
    (scans held command plan m name c.requires.asked)
    (scan_refuses held name m.nodes status (c.in_err-bytes.ensures.took.step held may))))

pub returns-in-Ok-clause-answer : goal.returns-in-Ok-clause-answer
returns-in-Ok-clause-answer g c = λ held may.
    let command = c.args.command.now in
    let plan = c.args.plan.now in
    let m = c.args.model.now in
    let name = c.args.name.now in
    let bytes = c.in_ok-bytes.bytes.items in
    let j = judgement_by plan.read m in
    let text = c.in-Ok.text in
    let states = states_of m.nodes bytes in
    let scored : IsScored j plan.read.names m states text =
    subst (λ t. IsScored j plan.read.names m (states_of m.nodes t) text) c.deref.ensures.value
    c.in-Ok.ensures.told in
    record {
      model = m;
      made = c.requires.modelled;
      last = Several states;
      read = subst (λ (steps : Steps Last). steps.end ≡ Some (Ok (Several states)))
          (scans held command plan m name c.requires.asked)
          (scan_gives held name m.nodes bytes j scored.best
          (c.in_ok-bytes.ensures.took.step held may) scored.first);
      told = subst (λ ask. IsTold ask plan.read plan.options.choices m (Several states) text)
          (sym c.requires.asked) scored;
    }

pub returns-in-Ok-clause-step : goal.returns-in-Ok-clause-step
unfolding returns-in-Ok-clause-answer
returns-in-Ok-clause-step g c = λ held may.
    let told = returns-in-Ok-clause-answer g c held may in
    last_gives c.args.plan.now
    (last_step held c.args.command.now.ask c.args.plan.now.read.variables)
    c.args.model.now told.last c.requires.modelled told.read

pub returns-in-Ok-clause-some : goal.returns-in-Ok-clause-some
returns-in-Ok-clause-some g c =
    let read = c.args.plan.now.read in
    let m = c.args.model.now in
    scored_some (judgement_by read m) read.names m (states_of m.nodes c.deref.result.now)
    c.in-Ok.text c.in-Ok.ensures.told

pub returns-in-Err-NoState-clause-step : goal.returns-in-Err-NoState-clause-step
returns-in-Err-NoState-clause-step g c = λ held may.
    let command = c.args.command.now in
    let plan = c.args.plan.now in
    let m = c.args.model.now in
    let name = c.args.name.now in
    let bytes = c.in_ok-bytes.bytes.items in
    let ends = subst (λ (steps : Steps Last). steps.end ≡ Some (Err (NoState m.nodes)))
    (scans held command plan m name c.requires.asked)
    (scan_finds_none held name m.nodes bytes (c.in_ok-bytes.ensures.took.step held may)
    (subst (λ t. states_of m.nodes t ≡ []) c.deref.ensures.value
    (c.in-Err-NoState.ensures.no_state (ap Err c.in-Err-NoState.field-0-is)))) in (
      c.requires.modelled.can_stand,
      (
        m,
        c.requires.modelled.by,
        subst (λ (n : ℕ). (last_step held command.ask plan.read.variables m).end ≡ Some (Err (NoState n)))
            (sym c.nodes_of.ensures) ends,
      ),
    )

pub returns-in-Err-NoState-clause-files : goal.returns-in-Err-NoState-clause-files
returns-in-Err-NoState-clause-files g c =
    none_read (name_of c.args.command.now) c.args.command.now c.args.name.now c.nodes_of.result
    (g.F.Files.counts c.args.files.now) (g.F.Files.counts c.take_states.new.files)
    c.requires.asked c.in_ok-bytes.ensures.took.passed

pub returns-clause-files : goal.returns-clause-files
returns-clause-files g c =
    read_wanting (name_of c.args.command.now) (last_files c.args.command.now)
    (g.F.Files.counts c.args.files.now) (g.F.Files.counts c.take_states.new.files)
    c.in_ok-bytes.ensures.took.passed
