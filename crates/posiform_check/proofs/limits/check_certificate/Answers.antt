use Rattle.posiform_check.proofs.Common.{rules, ◌≤◌, length, All-from_recursion, Line, most_literals}
use Rattle.posiform_check.proofs.Gathering.{none_above}
use Rattle.posiform_check.proofs.limits.check_certificate.Goals as goal

pub pairs_of-pairs-requires : goal.pairs_of-pairs-requires
pairs_of-pairs-requires c =
    let lines = c.certificate.inside.lines in
    let few : most_literals lines ≤ 8 = search rules in
    All-from_recursion (λ (l : Line). length l.literals ≤ 8) lines (none_above 0 8 lines few).1
