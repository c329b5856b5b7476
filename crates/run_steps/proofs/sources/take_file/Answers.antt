use Rattle.run_steps.proofs.Lemmas.{reading_file, checking_file, Some, Ok, ◌≡◌, arith, nat_tests, refl, Err, Source, Limit, told_then, file_ends, file_refuses, limited_is, limited_not, within_penalized, returned}
use Rattle.run_steps.proofs.Refusals.{limits_refused}
use Rattle.run_steps.proofs.sources.take_file.Goals as goal

pub returns-in_err-own-clause-took : goal.returns-in_err-own-clause-took
returns-in_err-own-clause-took g c = grind (arith, nat_tests, returned, told_then, file_refuses)

pub returns-in_err-read-clause-took : goal.returns-in_err-read-clause-took
returns-in_err-read-clause-took g c = grind (arith, nat_tests, returned, told_then)

pub returns-in_ok-given-in-Ok-clause-within : goal.returns-in_ok-given-in-Ok-clause-within
returns-in_ok-given-in-Ok-clause-within g c =
    within_penalized c.args.command.now c.in_ok-read.read c.in_ok-given-in-Ok.given
    c.in_ok-given-in-Ok.ensures.value c.in-Ok.ensures.exact

pub returns-in_ok-given-in-Ok-clause-took : goal.returns-in_ok-given-in-Ok-clause-took
returns-in_ok-given-in-Ok-clause-took g c =
    let name = c.args.name.now in
    let format = c.args.format in
    let command = c.args.command.now in
    let own = c.in_ok-own.own in
    let given = c.in_ok-read.read in
    let made = c.in_ok-given-in-Ok.given in
    record {
      step =
          told_then (g.F.Files.held c.args.files.now)
          (λ h. (reading_file h name command.slack format).end ≡ Some (Ok own))
          (λ h. (checking_file h name format command).end ≡ Some (Ok made))
          (λ h e. file_ends h name format command own (Ok made) e
          (limited_is command own given made c.in_ok-read.ensures.value
          c.in_ok-given-in-Ok.ensures.value c.in-Ok.ensures.exact))
          c.in_ok-own.ensures.took.step;
      held = c.in_ok-own.ensures.took.held;
      passed = c.in_ok-own.ensures.took.passed;
      refused = tt;
    }

pub returns-in-Err-clause-took : goal.returns-in-Err-clause-took
returns-in-Err-clause-took g c =
    let name = c.args.name.now in
    let format = c.args.format in
    let command = c.args.command.now in
    let own = c.in_ok-own.own in
    let given = c.in_ok-read.read in
    let fault = c.in-Err.fault in
    let end = Err (Limit Source fault.kind fault.number) in
    record {
      step =
          told_then (g.F.Files.held c.args.files.now)
          (λ h. (reading_file h name command.slack format).end ≡ Some (Ok own))
          (λ h. (checking_file h name format command).end ≡ Some end)
          (λ h e. file_ends h name format command own end e
          (limited_not command own given fault c.in_ok-read.ensures.value
          c.in-Err.ensures.exact))
          c.in_ok-own.ensures.took.step;
      held = c.in_ok-own.ensures.took.held;
      passed = tt;
      refused = (
        refl,
        limits_refused name 1 fault.number fault.kind (g.F.Files.counts c.args.files.now)
            (g.F.Files.counts c.take_read.new.files) c.in-Err.ensures.counted
            c.in_ok-own.ensures.took.passed,
      );
    }
