use Rattle.wbo_reader.proofs.Lemmas.{append-nil, not, count_by, drop_all, rows_of, WboContent, rules, ◌≡◌, ◌+◌, true, false, Some, drop, subst, sym, ap, ◌∙◌, arith, slice_get, Constraint, IsSound, constraint_total, Soft, eased_row, with_rows, soft_within, rows_left, hard_sound, soft_sound, hard_added, soft_added, first_left, soft_more, hard_more}
use Rattle.wbo_reader.proofs.wbo.Wbo.add_rows.Goals as goal
use Rattle.wbo_reader.proofs.wbo.Wbo.add_rows.Goals.{then-is_soft+in_ok-add_soft, else-is_soft+in_ok-add_hard}

pub add_soft-requires-clause-small : goal.add_soft-requires-clause-small
add_soft-requires-clause-small c =
    let at : slice_get c.self.inside.soft c.loop-is_soft.soft ≡ Some c.at.result = search rules in
    let view = ap (λ (s : Soft). constraint_total s.constraint) c.add_soft.view_is in
    let within = soft_within c.self.inside.soft c.loop-is_soft.soft c.at.result at in
    omega (arith, c.self.invariant.small)

pub add_soft-requires-clause-sound : goal.add_soft-requires-clause-sound
add_soft-requires-clause-sound c =
    let p = c.loop-is_soft.problem in
    let s = c.self.inside in
    let items = c.as_slice-is_soft-items.result.now in
    let i = c.loop-is_soft.is_soft-index in
    let v = s.variables in
    let at : slice_get s.soft c.loop-is_soft.soft ≡ Some c.at.result = search rules in
    let first = first_left items i true c.loop-is_soft-test.true c.if-is_soft.true in
    subst (λ (k : Constraint). IsSound (with_rows p (eased_row (v + c.loop-is_soft.soft) k)))
    (sym (ap (λ (s : Soft). s.constraint) c.add_soft.view_is))
    (soft_sound p _ (drop i items) (drop (i + 1) items) c.loop-is_soft.hard s.hard v
    c.loop-is_soft.soft s.soft c.at.result c.loop-is_soft.invariant.rows c.requires first at)

pub add_hard-requires : goal.add_hard-requires
add_hard-requires c =
    let p = c.loop-is_soft.problem in
    let s = c.self.inside in
    let items = c.as_slice-is_soft-items.result.now in
    let i = c.loop-is_soft.is_soft-index in
    let at : slice_get s.hard c.loop-is_soft.hard ≡ Some c.at-else-is_soft.result = search rules in
    let first = first_left items i false c.loop-is_soft-test.true c.if-is_soft.false in
    hard_sound p _ (drop i items) (drop (i + 1) items) c.loop-is_soft.hard s.hard s.variables
    c.loop-is_soft.soft s.soft c.at-else-is_soft.result c.loop-is_soft.invariant.rows c.requires
    first at

pub loop-is_soft-preserved : goal.loop-is_soft-preserved
loop-is_soft-preserved c =
    let p = c.loop-is_soft.problem in
    let s = c.self.inside in
    let items = c.as_slice-is_soft-items.result.now in
    let i = c.loop-is_soft.is_soft-index in
    let v = s.variables in
    let rest = drop (i + 1) items in
    let h = c.loop-is_soft.invariant in
    elim c.if-is_soft.branch [
      | then-is_soft+in_ok-add_soft w ↦
          let first = first_left items i true c.loop-is_soft-test.true w.if-is_soft.true in
          let more = soft_more (drop i items) rest first in
          let added =
          w.in_ok-add_soft.ensures ∙ ap (λ (k : Soft). with_rows p (eased_row
          (v + c.loop-is_soft.soft) k.constraint)) w.add_soft.view_is in
          record {
            rows = (λ n. with_rows (w.problem-is n) (rows_left rest (w.hard-is n) s.hard v
                (w.soft-is n) s.soft))
                ∙ soft_added p _ _ (drop i items) rest c.loop-is_soft.hard s.hard v
                c.loop-is_soft.soft s.soft w.at.result h.rows first w.at.ensures added;
            hard_left = omega (arith, w.hard-is, more.1, h.hard_left);
            soft_left = omega (arith, w.soft-is, more.0, h.soft_left);
          }
      | else-is_soft+in_ok-add_hard w ↦
          let first = first_left items i false c.loop-is_soft-test.true w.if-is_soft.false in
          let more = hard_more (drop i items) rest first in
          record {
            rows = (λ n. with_rows (w.problem-is n) (rows_left rest (w.hard-is n) s.hard v
                (w.soft-is n) s.soft))
                ∙ hard_added p _ _ (drop i items) rest c.loop-is_soft.hard s.hard v
                c.loop-is_soft.soft
                s.soft w.at-else-is_soft.result h.rows first w.at-else-is_soft.ensures
                w.in_ok-add_hard.ensures;
            hard_left = omega (arith, w.hard-is, more.1, h.hard_left);
            soft_left = omega (arith, w.soft-is, more.0, h.soft_left);
          }
    ]

pub loop-is_soft-init : goal.loop-is_soft-init
loop-is_soft-init c =
    let items = c.as_slice-is_soft-items.ensures in
    let first : c.self.inside.variables + 0 ≡ c.self.inside.variables = omega arith in
    record {
      rows = rw (items, first)
          (ap (λ (s : WboContent). with_rows c.args.problem.now (rows_of s)) c.self.view_is);
      hard_left = omega (arith, ap (count_by not) items, c.self.invariant.hard_count);
      soft_left = omega (arith, ap (count_by (λ b. b)) items, c.self.invariant.soft_count);
    }

pub returns : goal.returns
returns c =
    let h = c.loop-is_soft.invariant in
    let items = drop_all c.loop-is_soft.is_soft-index c.as_slice-is_soft-items.result.now (omega arith) in
    let hard = drop_all c.loop-is_soft.hard c.self.inside.hard (omega (arith, ap (count_by not) items, h.hard_left)) in
    let soft = drop_all c.loop-is_soft.soft c.self.inside.soft (omega (arith, ap (count_by (λ b. b)) items, h.soft_left)) in
    simp append-nil at (rw (items, hard, soft) at h.rows)
