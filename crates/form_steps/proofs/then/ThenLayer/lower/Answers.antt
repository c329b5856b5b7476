use Rattle.form_steps.proofs.Common.{rules, ap, ◌∙◌, ◌*ℤ◌, ◌+ℤ◌, arith, ◌+◌, ◌^◌, ◌≤◌, unsigned_abs, w128, ints, to_z-of_z, one_le_times, keeps_after_keeps}
use Rattle.form_steps.proofs.Growth.{first_growth, second_growth, first_factor, second_factor, both_scales, both_scales_fit, moved_fits, moved_sum, moved_sum_fits, grown_by_both}
use Rattle.form_steps.proofs.then.ThenLayer.lower.Goals as goal

pub lower-requires-clause-total : goal.lower-requires-clause-total
lower-requires-clause-total g c = first_growth _ g.A.Layer.TOTAL_GROWTH g.B.Layer.TOTAL_GROWTH _ c.requires.total

pub lower-requires-clause-offset : goal.lower-requires-clause-offset
lower-requires-clause-offset g c =
    first_factor _ g.A.Layer.TOTAL_GROWTH g.B.Layer.TOTAL_GROWTH g.A.Layer.OFFSET_FACTOR g.B.Layer.OFFSET_FACTOR _ c.requires.offset

pub lower-requires-clause-size : goal.lower-requires-clause-size
lower-requires-clause-size g c = first_growth _ g.A.Layer.SIZE_GROWTH g.B.Layer.SIZE_GROWTH _ c.requires.size

pub lower-requires-2-clause-total : goal.lower-requires-2-clause-total
lower-requires-2-clause-total g c =
    second_growth _ _ g.A.Layer.TOTAL_GROWTH g.B.Layer.TOTAL_GROWTH _ c.in_ok-first.ensures.total c.requires.total

pub lower-requires-2-clause-offset : goal.lower-requires-2-clause-offset
lower-requires-2-clause-offset g c =
    second_factor _ _ g.A.Layer.TOTAL_GROWTH g.B.Layer.TOTAL_GROWTH g.A.Layer.OFFSET_FACTOR g.B.Layer.OFFSET_FACTOR _ c.in_ok-first.ensures.total c.requires.offset

pub lower-requires-2-clause-size : goal.lower-requires-2-clause-size
lower-requires-2-clause-size g c =
    second_growth _ _ g.A.Layer.SIZE_GROWTH g.B.Layer.SIZE_GROWTH _ c.in_ok-first.ensures.size c.requires.size

pub scale_of_both-scale-requires : goal.scale_of_both-scale-requires
scale_of_both-scale-requires g c =
    let e = c.in_ok-first.ensures in
    both_scales_fit _ _ (g.A.Source.Costed.total c.args.source.now) g.A.Layer.TOTAL_GROWTH g.B.Layer.TOTAL_GROWTH e.scale_low e.scale_high c.in_ok-second.ensures.scale_low c.in_ok-second.ensures.scale_high c.requires.total

pub offset_of_both-offset-requires-clause-product : goal.offset_of_both-offset-requires-clause-product
offset_of_both-offset-requires-clause-product g c =
    let f = c.in_ok-second.ensures in
    moved_fits _ _ (g.A.Source.Costed.total c.args.source.now + 1) g.A.Layer.TOTAL_GROWTH g.B.Layer.TOTAL_GROWTH g.A.Layer.OFFSET_FACTOR g.B.Layer.OFFSET_FACTOR f.scale_low f.scale_high c.in_ok-first.ensures.offset_high c.requires.offset

pub offset_of_both-offset-requires-clause-sum : goal.offset_of_both-offset-requires-clause-sum
offset_of_both-offset-requires-clause-sum g c =
    let e = c.in_ok-first.ensures in
    let f = c.in_ok-second.ensures in
    moved_sum_fits c.in_ok-second.second.scale c.in_ok-first.first.offset c.in_ok-second.second.offset (g.A.Source.Costed.total c.args.source.now + 1) (g.A.Target.Costed.total c.in_ok-first.first.target + 1) g.A.Layer.TOTAL_GROWTH g.B.Layer.TOTAL_GROWTH g.A.Layer.OFFSET_FACTOR g.B.Layer.OFFSET_FACTOR f.scale_low f.scale_high e.offset_high f.offset_high e.total c.requires.offset

pub returns-clause-scale_low : goal.returns-clause-scale_low
returns-clause-scale_low g c =
    rw (to_z-of_z w128 c.scale_of_both-scale.result (search rules), c.scale_of_both-scale.ensures)
    (one_le_times _ _ c.in_ok-first.ensures.scale_low c.in_ok-second.ensures.scale_low)

pub returns-clause-scale_high : goal.returns-clause-scale_high
returns-clause-scale_high g c =
    let e = c.in_ok-first.ensures in
    let f = c.in_ok-second.ensures in
    let h : unsigned_abs c.scale_of_both-scale.result ≤ 2 ^ (g.A.Layer.TOTAL_GROWTH + g.B.Layer.TOTAL_GROWTH) = rw c.scale_of_both-scale.ensures (both_scales _ _ g.A.Layer.TOTAL_GROWTH g.B.Layer.TOTAL_GROWTH e.scale_low e.scale_high f.scale_low f.scale_high) in
    omega (arith, ints)

pub returns-clause-offset_high : goal.returns-clause-offset_high
returns-clause-offset_high g c =
    let e = c.in_ok-first.ensures in
    let f = c.in_ok-second.ensures in
    rw (to_z-of_z w128 c.offset_of_both-offset.result (search rules), c.offset_of_both-offset.ensures)
    (moved_sum _ _ _ (g.A.Source.Costed.total c.args.source.now + 1) (g.A.Target.Costed.total c.in_ok-first.first.target + 1) g.A.Layer.TOTAL_GROWTH g.B.Layer.TOTAL_GROWTH g.A.Layer.OFFSET_FACTOR g.B.Layer.OFFSET_FACTOR f.scale_low f.scale_high e.offset_high f.offset_high e.total)

pub returns-clause-total : goal.returns-clause-total
returns-clause-total g c =
    grown_by_both (g.A.Source.Costed.total c.args.source.now + 1) (g.A.Target.Costed.total c.in_ok-first.first.target + 1) (g.B.Target.Costed.total c.in_ok-second.second.target + 1) g.A.Layer.TOTAL_GROWTH g.B.Layer.TOTAL_GROWTH c.in_ok-first.ensures.total c.in_ok-second.ensures.total

pub returns-clause-size : goal.returns-clause-size
returns-clause-size g c =
    grown_by_both (g.A.Source.Costed.size c.args.source.now) (g.A.Target.Costed.size c.in_ok-first.first.target) (g.B.Target.Costed.size c.in_ok-second.second.target) g.A.Layer.SIZE_GROWTH g.B.Layer.SIZE_GROWTH c.in_ok-first.ensures.size c.in_ok-second.ensures.size

pub returns-clause-keeps : goal.returns-clause-keeps
returns-clause-keeps g c =
    rw (to_z-of_z w128 c.scale_of_both-scale.result (search rules), to_z-of_z w128 c.offset_of_both-offset.result (search rules), c.scale_of_both-scale.ensures, c.offset_of_both-offset.ensures)
    (keeps_after_keeps c.in_ok-first.ensures.keeps c.in_ok-second.ensures.keeps)

pub returns-clause-scale : goal.returns-clause-scale
returns-clause-scale g c =
    let e = c.in_ok-first.ensures in
    let second = c.in_ok-second.ensures.scale ∙ ap g.B.Layer.scale e.image in
    to_z-of_z w128 c.scale_of_both-scale.result (search rules) ∙ c.scale_of_both-scale.ensures ∙ (λ i. e.scale i *ℤ second i)

pub returns-clause-offset : goal.returns-clause-offset
returns-clause-offset g c =
    let e = c.in_ok-first.ensures in
    let f = c.in_ok-second.ensures in
    to_z-of_z w128 c.offset_of_both-offset.result (search rules) ∙ c.offset_of_both-offset.ensures
    ∙ (λ i. (f.scale ∙ ap g.B.Layer.scale e.image) i *ℤ e.offset i +ℤ (f.offset ∙ ap g.B.Layer.offset e.image) i)
