use Rattle.wbo_reader.proofs.Lemmas.{rules, ◌≡◌, ◌-ℤ◌, arith, false, int_le, to_z, of_z, w128, least_sum, eased_pushed}
use Rattle.wbo_reader.proofs.Sound.{least_size}
use Rattle.wbo_reader.proofs.copying.ease.Goals as goal

pub gap-gap-requires-clause-sum : goal.gap-gap-requires-clause-sum
gap-gap-requires-clause-sum c =
    let value : to_z w128 (of_z w128 c.least_sum-low.result)
    ≡ least_sum c.args.written.now.products = search rules in
    rw value (omega (arith, least_size c.args.written.now.products, c.requires.small))

pub returns : goal.returns
returns c =
    let k = c.args.written.now in
    let low : c.least_sum-low.result ≡ least_sum k.products = search rules in
    let gap : to_z w128 (of_z w128 c.gap-gap.result)
    ≡ k.bound -ℤ least_sum k.products = search rules in
    let short : int_le k.bound (least_sum k.products) ≡ false = search rules in
    eased_pushed c.args.variable k c.push.result c.push.new.self _ _ short c.requires.inexact (search rules) gap c.push.ensures.pushed
