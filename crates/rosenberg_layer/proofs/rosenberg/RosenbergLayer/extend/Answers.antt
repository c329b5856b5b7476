use Rattle.rosenberg_layer.proofs.Common.{sym, subst, pos, IfOk-weaker, first_bits, Extends, form_of, image, rosen_reaches}
use Rattle.rosenberg_layer.proofs.rosenberg.RosenbergLayer.extend.Goals as goal

pub returns-clause-reaches : goal.returns-clause-reaches
returns-clause-reaches c =
    let t = c.args.source.now.content in
    let x = c.args.x.now in
    let reaches = rosen_reaches c.args.link.now t x c.requires.fits c.requires.width in
    IfOk-weaker c.extended.result _ _
    (λ y same.
    subst (Extends (form_of t) (form_of (image t)) (first_bits c.args.link.now) (pos 1) (pos 0) x)
    (sym same) reaches)
    c.extended.ensures
