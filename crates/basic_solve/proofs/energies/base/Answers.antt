use Rattle.basic_solve.proofs.Common.{base_of, arith, get_or, unsigned_abs, ints, get_or-le-sum_by, sum_by-drop_more}
use Rattle.basic_solve.proofs.BitTables.{base-size, no_entry}
use Rattle.basic_solve.proofs.ListSums.{total_left}
use Rattle.basic_solve.proofs.energies.base.Goals as goal

pub base_of-sum-requires : goal.base_of-sum-requires
base_of-sum-requires c =
    omega (arith, get_or-le-sum_by (λ e. unsigned_abs e.weight) c.args.entries.now c.loop-entry.entry-index no_entry c.loop-entry-test.true, c.requires)

pub overflow_add-sum : goal.overflow_add-sum
overflow_add-sum c =
    let left = sum_by-drop_more (λ e. unsigned_abs e.weight) c.args.entries.now c.loop-entry.entry-index no_entry c.loop-entry-test.true in
    omega (arith, ints, c.base_of-sum.ensures, base-size c.args.kind c.args.bit (get_or c.args.entries.now c.loop-entry.entry-index no_entry), left, c.loop-entry.invariant.1)

pub loop-entry-preserved : goal.loop-entry-preserved
loop-entry-preserved c =
    let entries = c.args.entries.now in
    let at = c.loop-entry.entry-index in
    let within = c.loop-entry-test.true in
    let so_far = c.loop-entry.invariant in
    let is = c.base_of-sum.ensures in
    let size = base-size c.args.kind c.args.bit (get_or entries at no_entry) in
    let all = total_left (base_of c.args.kind c.args.bit) entries at no_entry within in
    let left = sum_by-drop_more (λ e. unsigned_abs e.weight) entries at no_entry within in
    (omega (arith, ints, is, size, left, all, so_far.0, so_far.1), omega (arith, ints, is, size, left, so_far.1))
