use Rattle.std.proofs.Common.{refl}
use Rattle.model_pipeline.proofs.Standing.{fits-product, fits-sum, fits-times}
use Rattle.model_pipeline.proofs.spins.quad_to_ising.Goals as goal

pub after-requires-clause-scale : goal.after-requires-clause-scale
after-requires-clause-scale c = fits-times c.args.form.figures.scale _ refl c.requires.figures.small.scale

pub after-requires-clause-product : goal.after-requires-clause-product
after-requires-clause-product c =
    fits-product c.args.form.figures.offset _ refl c.requires.figures.small.offset

pub after-requires-clause-sum : goal.after-requires-clause-sum
after-requires-clause-sum c =
    fits-sum c.args.form.figures.offset _ refl c.requires.figures.small.offset _ refl

pub after-requires-clause-product_2 : goal.after-requires-clause-product_2
after-requires-clause-product_2 c =
    fits-product c.args.form.figures.threshold _ refl c.requires.figures.small.threshold

pub after-requires-clause-sum_2 : goal.after-requires-clause-sum_2
after-requires-clause-sum_2 c =
    fits-sum c.args.form.figures.threshold _ refl c.requires.figures.small.threshold _ refl
