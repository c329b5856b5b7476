use Rattle.quad_form.proofs.Common.{◌≡◌, rules, flat_reaches}
use Rattle.quad_form.proofs.flatten.FlattenLayer.extend.Goals as goal

pub returns-clause-reaches : goal.returns-clause-reaches
returns-clause-reaches c =
    let same : c.in_ok-to_vec.field-0.items ≡ c.args.x.now = search rules in
    rw same
    (flat_reaches c.args._link.now c.args._source.now.content c.args.x.now c.requires.fits c.requires.width)
