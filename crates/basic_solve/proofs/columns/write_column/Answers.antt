use Rattle.basic_solve.proofs.Common.{arith, ap, sym, ◌≡◌, ◌∙◌, ◌-◌, append-nil, get_or, length-map, map, get_or-map, turned}
use Rattle.basic_solve.proofs.ColumnLists.{no_entry, none_before, none_left, step_down}
use Rattle.basic_solve.proofs.columns.write_column.Goals.{After-at-pair}
use Rattle.basic_solve.proofs.columns.write_column.Goals as goal

-- the pair that is read is the entry before the start, turned
read : (c : After-at-pair) → turned c.at-pair.result
    ≡ get_or (map turned c.args.pairs.now) (c.loop-start.start - 1) no_entry
read c =
    ap turned c.at-pair.ensures.value
    ∙ sym (get_or-map turned c.args.pairs.now (c.loop-start.start - 1) no_entry no_entry
    (omega (arith, length-map c.args.pairs.now turned, c.requires.within, c.loop-start-test.true, c.loop-start.invariant.0)))

pub returns-then-pair-node-clause-left : goal.returns-then-pair-node-clause-left
returns-then-pair-node-clause-left c =
    none_before _ _ _ _ no_entry _ c.requires c.loop-start.invariant.0 c.loop-start-test.true
    (read (goal.at.returns-then-pair-node-clause-left c).After-at-pair) c.if-pair-node.true

pub returns-then-pair-node-clause-column : goal.returns-then-pair-node-clause-column
returns-then-pair-node-clause-column c =
    let left = none_before _ _ _ _ no_entry _ c.requires c.loop-start.invariant.0 c.loop-start-test.true
    (read (goal.at.returns-then-pair-node-clause-column c).After-at-pair) c.if-pair-node.true in
    rw (none_left _ _ _ left, append-nil) at c.loop-start.invariant.1

pub loop-start-preserved : goal.loop-start-preserved
loop-start-preserved c =
    let so_far = c.loop-start.invariant in
    let step = step_down c.args.node (map turned c.args.pairs.now) c.loop-start.start c.args.end _ _ no_entry
    c.turned.result (omega (arith, so_far.0, c.requires.within)) c.loop-start-test.true
    (c.turned.ensures ∙ read (goal.at.loop-start-preserved c).After-at-pair)
    (ap (λ e. e.second) c.turned.ensures ∙ c.if-pair-node.false) c.in_ok-push.ensures.items so_far.1 so_far.2 in
    (omega (arith, so_far.0), step.0, step.1)
