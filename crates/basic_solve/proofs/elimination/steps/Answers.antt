use Rattle.basic_solve.proofs.Common.{◌≡◌, ◌∙◌, ap, arith, length, pos, get_or, to_z, of_z, unsigned_abs, eq-eqb, w128, sum_by, ints, length-replicate, sum_where, step_of, get_or-le-sum_by, sum_by-drop_more}
use Rattle.basic_solve.proofs.BitTables.{no_entry, written_items, step-size, not_node, none-sum, none-size, step_added, step_kept}
use Rattle.basic_solve.proofs.elimination.steps.Goals as goal
use Rattle.basic_solve.proofs.elimination.steps.Goals.{then-entry, else-entry}

pub loop-entry-init : goal.loop-entry-init
loop-entry-init c =
    let made = c.in_ok-begin_steps.ensures in
    let nodes = c.args.nodes.now in
    let count = length nodes in (
      ap length made ∙ length-replicate count (pos 0),
      λ y. omega (arith, ints, ap (sum_where y nodes) made, none-sum y nodes count),
      omega (arith, ap (sum_by unsigned_abs) made, none-size count),
    )

pub add_for-requires-clause-small : goal.add_for-requires-clause-small
add_for-requires-clause-small c =
    let entries = c.args.entries.now in
    let at = c.loop-entry.entry-index in
    let all = ap (sum_by unsigned_abs) c.deref_mut.ensures.value in
    let left = sum_by-drop_more (λ e. unsigned_abs e.weight) entries at no_entry c.loop-entry-test.true in
    let size = step-size c.args.kind c.args.bit (get_or entries at no_entry) in
    omega (arith, ints, all, left, size, ap unsigned_abs c.step_of.ensures)

pub loop-entry-preserved : goal.loop-entry-preserved
loop-entry-preserved c =
    let entries = c.args.entries.now in
    let nodes = c.args.nodes.now in
    let at = c.loop-entry.entry-index in
    let kind = c.args.kind in
    let bit = c.args.bit in
    let e = get_or entries at no_entry in
    let within = c.loop-entry-test.true in
    let so_far = c.loop-entry.invariant in
    let left = sum_by-drop_more (λ e. unsigned_abs e.weight) entries at no_entry within in
    let size = step-size kind bit e in
    let into = c.loop-entry.into in
    elim c.if-entry.branch [
      | then-entry w ↦
          let one = get_or-le-sum_by (λ e. unsigned_abs e.weight) entries at no_entry within in
          let added = to_z w128 (of_z w128 w.step_of.result) in
          let number : added ≡ step_of kind bit e
          = omega (arith, ints, w.step_of.ensures, size, one, c.requires.small) in
          let olds = w.deref_mut.ensures.value in
          let long : length w.add_for.new.steps ≡ length into.items
          = omega (arith, w.add_for.auto.steps, ap length olds) in
          let was = ap (sum_by unsigned_abs) olds in
          let change = ap unsigned_abs number in
          let items = ap (λ v. v.items) w.into-is
          ∙ written_items into.len w.add_for.new.steps into.items (omega (arith, into.ok.0)) long in (
            cc (items, long, so_far.0),
            step_added kind bit entries at no_entry within nodes into.items c.if-entry.into.items so_far.1 added
                (not_node e w.if-entry.true) number (λ y. rw (items, ← olds) (w.add_for.ensures.sums y)),
            rw items (omega (arith, w.add_for.ensures.size, was, left, size, change, so_far.2)),
          )
      | else-entry w ↦
          let items = ap (λ v. v.items) w.into-is in (
            ap length items ∙ so_far.0,
            step_kept kind bit entries at no_entry within nodes into.items c.if-entry.into.items so_far.1
                (eq-eqb e.first e.second w.if-entry.false) items,
            omega (arith, ap (sum_by unsigned_abs) items, left, so_far.2),
          )
    ]
