use Rattle.local_penalties.proofs.Common.{◌≡◌, ◌-◌, ◌+◌, ◌∙◌, sym, ap, arith, nat_tests, drop, neighbours_differ}
use Rattle.std.proofs.lemmas.List.{length-drop}
use Rattle.local_penalties.proofs.Differing.{differ-at, differ-short}
use Rattle.local_penalties.proofs.equations.neighbours_differ.Goals as goal

pub loop-i-preserved : goal.loop-i-preserved
loop-i-preserved c =
    let h = c.loop-i.invariant in
    let i = c.loop-i.i in
    let ns = c.args.numbers.now in
    let next = differ-at ns i h.some (omega arith) in
    let same : i + 1 - 1 ≡ i = omega arith in
    let left : neighbours_differ (drop i ns) ≡ neighbours_differ ns = grind (arith, nat_tests) in
    record { some = omega arith; left = ap (λ n. neighbours_differ (drop n ns)) same ∙ left }

pub returns : goal.returns
returns c =
    let h = c.loop-i.invariant in
    let ns = c.args.numbers.now in
    let short = differ-short (drop (c.loop-i.i - 1) ns) (omega (arith, length-drop (c.loop-i.i - 1) ns)) in
    sym short ∙ h.left
