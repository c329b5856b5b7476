use Rattle.basic_solve.proofs.Common.{◌+◌, ◌∙◌, ℕ, Bool, int_lt, pos, map, get_or, length, ap, length-append}
use Rattle.basic_solve.proofs.BitPlaces.{bytes_more}
use Rattle.basic_solve.proofs.tables.write_choices.Goals as goal

pub loop-at-preserved : goal.loop-at-preserved
loop-at-preserved g c =
    let f : ℕ → Bool = λ x. int_lt (get_or (map g.T.Number.value c.args.others.now) x (pos 0))
    (get_or (map g.T.Number.value c.args.values.now) x (pos 0)) in
    let pushed = c.in_ok-push.ensures.items in
    let more = bytes_more _ c.lesser_byte.result (length c.args.values.now) f c.loop-at.at c.loop-at.invariant.0
    c.lesser_byte.ensures c.loop-at.invariant.1 in
    (ap length pushed ∙ length-append _ _ ∙ ap (λ n. n + 1) c.loop-at.invariant.0, λ x h l. rw pushed (more x h l))
