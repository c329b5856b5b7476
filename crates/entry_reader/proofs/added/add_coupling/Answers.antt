use Rattle.entry_reader.proofs.Common.{◌<◌, ◌^◌, nat_abs, arith, on_ok_weaker}
use Rattle.entry_reader.proofs.Totals.{kept, four_kept, less_kept, three_within}
use Rattle.entry_reader.proofs.added.add_coupling.Goals as goal

pub add_single-requires-2-clause-small : goal.add_single-requires-2-clause-small
add_single-requires-2-clause-small c =
    let small : nat_abs c.args.coupling < 2 ^ 100 = omega (arith, c.requires.small) in
    let within = three_within _ _ _ _ c.args.coupling small c.add_number.ensures.total
    c.in_ok-add_pair.ensures.total c.in_ok-add_single.ensures.total in
    omega (arith, within, c.requires.small)

pub returns-clause-added : goal.returns-clause-added
returns-clause-added c =
    let small : nat_abs c.args.coupling < 2 ^ 100 = omega (arith, c.requires.small) in
    let same = kept c.args.coupling small in
    let four = four_kept c.args.coupling small in
    let less = less_kept c.args.coupling small in
    let number = rw same at c.add_number.ensures.added in
    let pair = rw (same, four) at c.in_ok-add_pair.ensures.added in
    let single = rw (same, less) at c.in_ok-add_single.ensures.added in
    rw (same, less, single, pair, number) at c.add_single-2.ensures.added

pub returns-clause-total : goal.returns-clause-total
returns-clause-total c =
    let small : nat_abs c.args.coupling < 2 ^ 100 = omega (arith, c.requires.small) in
    let within = three_within _ _ _ _ c.args.coupling small c.add_number.ensures.total
    c.in_ok-add_pair.ensures.total c.in_ok-add_single.ensures.total in
    grind (arith, on_ok_weaker)
