use Rattle.entry_reader.proofs.Common.{◌<◌, ◌^◌, nat_abs, arith, ints, on_ok_weaker}
use Rattle.entry_reader.proofs.Totals.{kept, twice_kept, negated_kept}
use Rattle.entry_reader.proofs.added.add_field.Goals as goal

pub returns-clause-added : goal.returns-clause-added
returns-clause-added c =
    let small : nat_abs c.args.field < 2 ^ 100 = omega (arith, c.requires.small) in
    let same = kept c.args.field small in
    let number = rw (same, negated_kept c.args.field small) at c.add_number.ensures.added in
    rw (same, twice_kept c.args.field small, number) at c.add_single.ensures.added

pub returns-clause-total : goal.returns-clause-total
returns-clause-total c =
    let small : nat_abs c.args.field < 2 ^ 100 = omega (arith, c.requires.small) in
    let same = kept c.args.field small in
    let number = rw (same, negated_kept c.args.field small) at c.add_number.ensures.total in
    let single = rw (same, twice_kept c.args.field small) at c.add_single.ensures.total in
    grind (arith, ints, on_ok_weaker)
