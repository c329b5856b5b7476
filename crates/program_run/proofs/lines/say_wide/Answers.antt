use Rattle.std.proofs.Common.{◌≡◌, decimal}
use Rattle.program_run.proofs.lines.say_wide.Goals as goal

pub returns : goal.returns
returns g c =
    let first : c.as_bytes-node.result.now ≡ decimal c.args.node = cc in
    let second : c.as_bytes-width.result.now ≡ decimal c.args.width = cc in
    rw (← first, ← second) c.put_six.ensures
