use Rattle.form_steps.proofs.Common.{nat_tests, arith, ◌+◌, one_le_times, keeps_after_by, keeps_stays_above}
use Rattle.form_steps.proofs.Growth.{grown_within, grown_bits, moved_figure, moved_figure_sum, scaled_figure, fits_below}
use Rattle.form_steps.proofs.then.ThenGuard.guard.Goals as goal

pub lower-requires-clause-total : goal.lower-requires-clause-total
lower-requires-clause-total g c = grown_within _ g.A.Guard.TOTAL_BITS g.B.Layer.TOTAL_GROWTH 124 c.in_ok-first.ensures.total c.requires.1

pub lower-requires-clause-size : goal.lower-requires-clause-size
lower-requires-clause-size g c = grown_within _ g.A.Guard.SIZE_BITS g.B.Layer.SIZE_GROWTH 32 c.in_ok-first.ensures.size c.requires.2

pub figures_of_both-figures-requires-clause-scale : goal.figures_of_both-figures-requires-clause-scale
figures_of_both-figures-requires-clause-scale g c =
    grind (arith, nat_tests, fits_below, scaled_figure)

pub figures_of_both-figures-requires-clause-product : goal.figures_of_both-figures-requires-clause-product
figures_of_both-figures-requires-clause-product g c =
    grind (arith, nat_tests, fits_below, moved_figure)

pub figures_of_both-figures-requires-clause-sum : goal.figures_of_both-figures-requires-clause-sum
figures_of_both-figures-requires-clause-sum g c =
    grind (arith, nat_tests, fits_below, moved_figure_sum)

pub figures_of_both-figures-requires-clause-product_2 : goal.figures_of_both-figures-requires-clause-product_2
figures_of_both-figures-requires-clause-product_2 g c =
    grind (arith, nat_tests, fits_below, moved_figure)

pub figures_of_both-figures-requires-clause-sum_2 : goal.figures_of_both-figures-requires-clause-sum_2
figures_of_both-figures-requires-clause-sum_2 g c =
    grind (arith, nat_tests, fits_below, moved_figure_sum)

pub returns-clause-scale_low : goal.returns-clause-scale_low
returns-clause-scale_low g c = grind (arith, nat_tests, one_le_times)

pub returns-clause-scale_high : goal.returns-clause-scale_high
returns-clause-scale_high g c = grind (arith, nat_tests, scaled_figure)

pub returns-clause-offset_high : goal.returns-clause-offset_high
returns-clause-offset_high g c = grind (arith, nat_tests, moved_figure_sum)

pub returns-clause-threshold_high : goal.returns-clause-threshold_high
returns-clause-threshold_high g c = grind (arith, nat_tests, moved_figure_sum)

pub returns-clause-total : goal.returns-clause-total
returns-clause-total g c =
    grown_bits (g.B.Target.Costed.total c.in_ok-second.second.target + 1) (g.A.Target.Costed.total c.in_ok-first.first.target + 1) g.A.Guard.TOTAL_BITS g.B.Layer.TOTAL_GROWTH c.in_ok-first.ensures.total c.in_ok-second.ensures.total

pub returns-clause-size : goal.returns-clause-size
returns-clause-size g c =
    grown_bits (g.B.Target.Costed.size c.in_ok-second.second.target) (g.A.Target.Costed.size c.in_ok-first.first.target) g.A.Guard.SIZE_BITS g.B.Layer.SIZE_GROWTH c.in_ok-first.ensures.size c.in_ok-second.ensures.size

pub returns-clause-relaxes : goal.returns-clause-relaxes
returns-clause-relaxes g c =
    rw c.figures_of_both-figures.ensures
    (λ scope allowed. keeps_after_by scope _ _ _ _ _ _ _ _ (c.in_ok-first.ensures.relaxes scope allowed) c.in_ok-second.ensures.keeps)

pub returns-clause-stays : goal.returns-clause-stays
returns-clause-stays g c =
    rw c.figures_of_both-figures.ensures
    (keeps_stays_above c.in_ok-first.ensures.stays c.in_ok-second.ensures.keeps)
