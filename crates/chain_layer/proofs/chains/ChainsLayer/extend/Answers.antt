use Rattle.chain_layer.proofs.Common.{sym, subst, pos, IfOk-weaker, Extends, form_of, image, offset, decoding, chains_reach}
use Rattle.ising_form.specs.Isings as isings
use Rattle.chain_layer.proofs.chains.ChainsLayer.extend.Goals as goal

pub returns-clause-reaches : goal.returns-clause-reaches
returns-clause-reaches c =
    let e = c.args.source.now in
    let x = c.args.x.now in
    let link = c.args._link.now in
    let reaches = chains_reach link e x c.requires.fits c.requires.width in
    IfOk-weaker c.extended.result _ _
    (λ y same. subst (Extends (form_of e) (isings.form_of (image e)) (decoding link) (pos 1) (offset e) x) (sym same) reaches)
    c.extended.ensures
