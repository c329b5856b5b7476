use Rattle.program_run.proofs.Common.{◌≡◌, rules, decimal, ap, ◌∙◌, of_z, to_z, w128, to_z-of_z, signed_decimal}
use Rattle.program_run.proofs.lines.say_unproved.Goals as goal

pub returns-in-Negative : goal.returns-in-Negative
returns-in-Negative g c =
    let printed : c.as_bytes-line.result.now ≡ decimal c.in-Negative.line = cc in
    rw (c.in-Negative.is, ← printed) c.put.ensures

pub returns-in-Differs : goal.returns-in-Differs
returns-in-Differs g c =
    let ours = to_z-of_z w128 c.in-Differs.ours (search rules) in
    let theirs = to_z-of_z w128 c.in-Differs.theirs (search rules) in
    rw (c.in-Differs.is, ← ours, ← theirs) c.say_difference.ensures

pub returns-in-NotZero : goal.returns-in-NotZero
returns-in-NotZero g c =
    let printed : c.as_bytes-above.result.now
    ≡ signed_decimal (to_z w128 (of_z w128 c.in-NotZero.above)) = cc in
    let above = printed ∙ ap signed_decimal (to_z-of_z w128 c.in-NotZero.above (search rules)) in
    rw (c.in-NotZero.is, ← above) c.put-in-NotZero.ensures
