use Rattle.program_run.proofs.Common.{◌≡◌, rules, ap, ◌∙◌, of_z, to_z, w128, to_z-of_z, signed_decimal}
use Rattle.program_run.proofs.lines.say_difference.Goals as goal

pub returns : goal.returns
returns g c =
    let first : c.as_bytes-ours.result.now ≡ signed_decimal (to_z w128 (of_z w128 c.args.ours)) = cc
    in
    let second : c.as_bytes-theirs.result.now ≡ signed_decimal (to_z w128 (of_z w128 c.args.theirs)) =
    cc in
    let ours = first ∙ ap signed_decimal (to_z-of_z w128 c.args.ours (search rules)) in
    let theirs = second ∙ ap signed_decimal (to_z-of_z w128 c.args.theirs (search rules)) in
    rw (← ours, ← theirs) c.put_six.ensures
