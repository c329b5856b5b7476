use Rattle.cut_chains.proofs.Common.{sym, subst, pos, IfOk-weaker, Extends, form_of, cut_image, cut_offset, decoding, cut_reaches}
use Rattle.ising_form.specs.Isings as isings
use Rattle.cut_chains.proofs.cut_chains.CutChains.extend.Goals as goal

pub returns-clause-reaches : goal.returns-clause-reaches
returns-clause-reaches c =
    let e = c.args.source.now in
    let link = c.args._link.now in
    let reaches = cut_reaches link e c.args.x.now c.requires.fits c.requires.width in
    IfOk-weaker c.extended.result _ _
    (λ y same. subst (Extends (form_of e) (isings.form_of (cut_image e)) (decoding link) (pos 1)
    (cut_offset e) c.args.x.now) (sym same) reaches) c.extended.ensures
